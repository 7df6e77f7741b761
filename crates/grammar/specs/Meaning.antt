-- What the faults 18 and 19 mean: the first token at which no statement of the grammar can go on (or the early end),
-- 18, or an opening that the grammar allows but goes to level 17, 19.
use Rattle.std.specs.Prelude.{ℕ, suc, ◌+◌, ◌≤◌, ◌<◌, ◌≡◌, ◌⊎◌, ◌↔◌, List, [], ◌∷◌, ◌++◌, length, get_or, take}
use Rattle.std.specs.Prelude.{replicate}
use Rattle.limits.specs.Limits.{levels}
use Rattle.tokens.specs.Symbol.{INSW, Symbol, mark, name, word}
use Rattle.drafts.specs.Tree.{Says}
use Rattle.grammar.specs.Look.{Opening, Call, factor_start}
use Rattle.grammar.specs.Grammar.{Derives}
use Rattle.grammar.specs.Parser.{read, fault, read_row}

-- the tokens w are the front of a statement with at most d levels; a statement without limit is one with some count of
-- levels
pub record Front (d : ℕ) (w : List Symbol) : Type 0 where
  pub behind : List Symbol
  pub says : Says
  pub derived : Derives d (w ++ behind) says

-- the last of the tokens w is no function's name
abbrev pub Calm : List Symbol → Type 0
Calm w = (v : List Symbol) (t : Symbol) (p : Opening) → w ≡ v ++ t ∷ [] → factor_start t ≡ Call p → ⊥

-- at place i stands an opening that the grammar allows, with one level more than there are and not with those
pub record TooDeep (row : List Symbol) (i : ℕ) : Type 0 where
  pub within : i < length row
  pub mark_there : get_or row i (mark 0) ≡ mark 40
  pub allowed : Front (suc levels) (take (i + 1) row)
  pub no_more : Front levels (take (i + 1) row) → ⊥

-- 18 at token i: the tokens before it begin some statement of the grammar, those up to and including it begin none at
-- any depth (at the early end: the row is none), and no earlier opening is too deep
pub record Eighteen (row : List Symbol) (i : ℕ) : Type 0 where
  pub within : i ≤ length row
  pub depth : ℕ
  pub begun : Front depth (take i row)
  pub no_further : i < length row → (d : ℕ) → Front d (take (i + 1) row) → ⊥
  pub none : i ≡ length row → (d : ℕ) (x : Says) → Derives d row x → ⊥
  pub earlier : (j : ℕ) → j < i → TooDeep row j → ⊥

-- 19 at token i: it is an opening that the grammar allows with one level more than there are and not with those, and
-- none is earlier
pub record Nineteen (row : List Symbol) (i : ℕ) : Type 0 where
  pub deep : TooDeep row i
  pub earlier : (j : ℕ) → j < i → TooDeep row j → ⊥

-- what the parser answers, exactly
pub record Means (row : List Symbol) : Type 0 where
  pub statement : (x : Says) → (read_row row ≡ read x) ↔ Derives levels row x
  pub eighteen : (i : ℕ) → (read_row row ≡ fault 18 i) ↔ Eighteen row i
  pub nineteen : (i : ℕ) → (read_row row ≡ fault 19 i) ↔ Nineteen row i
  pub no_other : (c i : ℕ) → read_row row ≡ fault c i → (c ≡ 18) ⊎ (c ≡ 19)
  -- for the tokens before a fault 18 one level more suffices, and the levels unless they end in a function's name
  pub seventeen : (i : ℕ) → Eighteen row i → Front (suc levels) (take i row)
  pub sixteen : (i : ℕ) → Eighteen row i → Calm (take i row) → Front levels (take i row)
  -- it is one statement, whatever the depth
  pub one : (d e : ℕ) (x y : Says) → Derives d row x → Derives e row y → x ≡ y

-- ---- the exception: a front that ends with a function's name can want one level more than there are

-- n openings, INSW, and the tokens r
abbrev pub inside : ℕ → List Symbol → List Symbol
inside n r = replicate n (mark 40) ++ word INSW ∷ r

-- behind name =
unfoldable pub deepest : ℕ → List Symbol
deepest n = name 1 ∷ mark 61 ∷ inside n []
