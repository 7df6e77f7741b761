-- Any two outcomes that the contract of an open entry allows are equal.
use Prim.Native.Nat.{ℕ}
use mathlib.Core.Path.{◌≡◌, refl, sym, ◌∙◌}
use mathlib.Core.List.{List}
use Rattle.std.specs.Prelude.{Result, Ok, Err}
use Rattle.faults.specs.Codes.{code_of}
use Rattle.faults.proofs.Apart.{code_injective}
use Rattle.tokens.specs.declared.RowError.{RowError}
use Rattle.tokens.specs.declared.RowError.TheVariants.{NoRoom, Bad}
use Rattle.laws.specs.Agree.{Agree, Agree3}
use Rattle.tokens.specs.Contract.{end_in, TakesCut, WritesRow, PlacesToken}

pub take_cut : (body : List ℕ) (from : ℕ) → Agree (TakesCut body from)
take_cut body from r s p q = p ∙ sym q

-- an answer that says how a row ends is one answer
end_injective : (r s : Result ℕ RowError) → end_in r ≡ end_in s → r ≡ s
end_injective (Ok n) (Ok m) e = cc
end_injective (Ok n) (Err NoRoom) e = cc
end_injective (Ok n) (Err (Bad f m at)) e = cc
end_injective (Err NoRoom) (Ok m) e = cc
end_injective (Err NoRoom) (Err NoRoom) e = refl
end_injective (Err NoRoom) (Err (Bad f m at)) e = cc
end_injective (Err (Bad f n at)) (Ok m) e = cc
end_injective (Err (Bad f n at)) (Err NoRoom) e = cc
end_injective (Err (Bad f n at)) (Err (Bad g m at')) e =
    let same : code_of f ≡ code_of g = cc in cc (code_injective f g same)

pub row : (body kinds args : List ℕ) → Agree3 (WritesRow body kinds args)
row body kinds args r s k l a b p q =
    (end_injective r s (p.answer ∙ sym q.answer), p.kinds ∙ sym q.kinds, p.args ∙ sym q.args)

pub token_place : (body : List ℕ) (i : ℕ) → Agree (PlacesToken body i)
token_place body i r s p q = p ∙ sym q
