-- Any two outcomes that the contract of the open entry allows are equal.
use Rattle.std.specs.Prelude.{Result, Ok, Err}
use Prim.Native.Nat.{ℕ}
use mathlib.Core.Path.{◌≡◌, refl, sym, ap, ap₂, ◌∙◌}
use mathlib.Core.List.{List}
use Rattle.laws.specs.Agree.{Agree3}
use Rattle.faults.specs.declared.Fault.{Fault}
use Rattle.faults.specs.Codes.{code_of}
use Rattle.faults.proofs.Apart.{code_injective}
use Rattle.grammar.specs.declared.ParseError.{ParseError}
use Rattle.grammar.specs.declared.ParseError.TheVariants.{NoRoom as TooShort, Misread as Misreads}
use Rattle.grammar.specs.Contract.{ParseOutcome, parse_outcome, Parsed, parsed_in}
use Rattle.grammar.specs.Contract.{ParsesRow}

-- what is said of an answer tells the answer
said_injective : (r s : Result ℕ ParseError) → parsed_in r ≡ parsed_in s → r ≡ s
said_injective (Ok q) (Ok p) e = cc
said_injective (Ok q) (Err TooShort) e = cc
said_injective (Ok q) (Err (Misreads m)) e = cc
said_injective (Err TooShort) (Ok p) e = cc
said_injective (Err TooShort) (Err TooShort) e = refl
said_injective (Err TooShort) (Err (Misreads m)) e = cc
said_injective (Err (Misreads m)) (Ok p) e = cc
said_injective (Err (Misreads m)) (Err TooShort) e = cc
said_injective (Err (Misreads m)) (Err (Misreads n)) e =
    let codes : code_of m.fault ≡ code_of n.fault = cc in
    let faults : m.fault ≡ n.fault = code_injective m.fault n.fault codes in
    let places : m.at ≡ n.at = cc in
    ap₂ {C = Result ℕ ParseError} (λ (f : Fault) (i : ℕ). Err (Misreads (record { fault = f; at = i }))) faults places

pub parse_row : (kinds args out_kinds out_args : List ℕ) (place : ℕ)
    → Agree3 (ParsesRow kinds args out_kinds out_args place)
parse_row kinds args out_kinds out_args place r s k l a b p q = parts (p ∙ sym q)
  where
    parts : parse_outcome (parsed_in r) k a ≡ parse_outcome (parsed_in s) l b
        → (r ≡ s) × (k ≡ l) × (a ≡ b)
    parts e =
        let same : parsed_in r ≡ parsed_in s = ap (λ (y : ParseOutcome Parsed). y.reply) e in (
          said_injective r s same,
          ap (λ (y : ParseOutcome Parsed). y.kinds) e,
          ap (λ (y : ParseOutcome Parsed). y.args) e,
        )
