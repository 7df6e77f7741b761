-- Faults 18 and 19 of a row of tokens: each exactly where the paper says, and one meaning for each row.
use Prim.Native.Nat.{ℕ, suc, ◌+◌}
use mathlib.Core.Path.{◌≡◌, refl, sym, ap, ◌∙◌}
use mathlib.Core.List.{List, []}
use mathlib.Core.Logic.{◌⊎◌, inl, inr, ⊎_elim}
use native.Mathlib.Omega.{arith}
use lib.ListN.{length, take, drop, take-append-drop}
use Rattle.laws.proofs.Tests.{lt_or_ge}
use Rattle.limits.specs.Limits.{levels}
use Rattle.tokens.specs.Symbol.{Symbol}
use Rattle.drafts.specs.Tree.{Says}
use Rattle.grammar.specs.Grammar.{Derives}
use Rattle.grammar.specs.Parser.{got, calls, Read, read, fault, read_row}
use Rattle.grammar.specs.Meaning.{Front, TooDeep, Eighteen, Nineteen, Means, deepest}
use Rattle.grammar.proofs.StatementsSound.{stated_le}
use Rattle.grammar.proofs.Accepts.{entire_complete, accepts}
use Rattle.grammar.proofs.Stops.{Wrong, Stops, wrong, deep}
use Rattle.grammar.proofs.Faults.{front_le, exactly}
use Rattle.grammar.proofs.Tight.{loose, tight}

-- ---- fronts

-- a statement's front
whole_front : {d : ℕ} {x : Says} (row : List Symbol) (i : ℕ) → Derives d row x → Front d (take i row)
whole_front {d} {x} row i a = record { behind = drop i row; says = x; derived = rw (take-append-drop i row) a }

-- ---- a row
module _ (row : List Symbol) where
  -- what the parser's 18 means is what the paper's means
  to_eighteen : (i : ℕ) → Stops row 18 i → Eighteen row i
  to_eighteen i m = go 18 m refl
    where
      go : (c : ℕ) → Stops row c i → c ≡ 18 → Eighteen row i
      go c (wrong W f) e =
          record {
            within = W.within;
            depth = suc levels;
            begun = W.before;
            no_further = W.no_more;
            none = λ _. W.not_whole;
            earlier = f;
          }
      go c (deep T f) e = absurd (let z : ⊥ = omega arith in z)

  -- the same of 19
  to_nineteen : (i : ℕ) → Stops row 19 i → Nineteen row i
  to_nineteen i m = go 19 m refl
    where
      go : (c : ℕ) → Stops row c i → c ≡ 19 → Nineteen row i
      go c (wrong W f) e = absurd (let z : ⊥ = omega arith in z)
      go c (deep T f) e = record { deep = T; earlier = f }

  -- the parser stops there and nowhere else
  same_place : (i j : ℕ) → Wrong row j → Eighteen row i → j ≡ i
  same_place i j W E =
      let h = E.within in
      let k = W.within in
      ⊎_elim (λ l. absurd (W.no_more (omega arith) E.depth (front_le row (j + 1) i (omega arith) E.begun)))
      (λ g.
      ⊎_elim (λ l. absurd (E.no_further (omega arith) (suc levels) (front_le row (i + 1) j (omega arith) W.before)))
      (λ g'. omega arith)
      (lt_or_ge i j))
      (lt_or_ge j i)

  -- no statement has such a place
  no_statement : (i : ℕ) (x : Says) → Eighteen row i → Derives levels row x → ⊥
  no_statement i x E a =
      let h = E.within in
      ⊎_elim (λ l. E.no_further l levels (whole_front row (i + 1) a)) (λ g. E.none (omega arith) levels x a)
      (lt_or_ge i (length row))

  -- and no opening is too deep there or behind
  no_opening : (i j : ℕ) → Eighteen row i → TooDeep row j → ⊥
  no_opening i j E T =
      let h = T.within in
      ⊎_elim (λ l. E.earlier j l T)
      (λ g. E.no_further (omega arith) (suc levels) (front_le row (i + 1) (j + 1) (omega arith) T.allowed))
      (lt_or_ge j i)

  -- so that is what the parser answers
  from_eighteen : (i : ℕ) → Eighteen row i → read_row row ≡ fault 18 i
  from_eighteen i E = go (read_row row) refl
    where
      stopped : (c j : ℕ) → Stops row c j → fault c j ≡ fault 18 i
      stopped c j (wrong W f) = ap (fault 18) (same_place i j W E)
      stopped c j (deep T f) = absurd (no_opening i j E T)

      go : (r : Read) → read_row row ≡ r → r ≡ fault 18 i
      go (read x) e = absurd (no_statement i x E ((accepts row x).0 e))
      go (fault c j) e = stopped c j ((exactly row c j).0 e)

  -- a meaning has one of the two codes
  two_codes : (c i : ℕ) → Stops row c i → (c ≡ 18) ⊎ (c ≡ 19)
  two_codes c i (wrong W f) = inl refl
  two_codes c i (deep T f) = inr refl

  -- the parser's 18, with what it knows of the levels
  wrong_of : (c i : ℕ) → Stops row c i → c ≡ 18 → Wrong row i
  wrong_of c i (wrong W f) e = W
  wrong_of c i (deep T f) e = absurd (let z : ⊥ = omega arith in z)

  -- the same of the paper's 18
  known : (i : ℕ) → Eighteen row i → Wrong row i
  known i E = wrong_of 18 i ((exactly row 18 i).0 (from_eighteen i E)) refl

  -- a row is one statement at most
  one_statement : (d e : ℕ) (x y : Says) → Derives d row x → Derives e row y → x ≡ y
  one_statement d e x y a b =
      let p = entire_complete (stated_le a (d + e) (omega arith)) (calls row) (omega arith) in
      let q = entire_complete (stated_le b (d + e) (omega arith)) (calls row) (omega arith) in
      let z : got x [] ≡ got y [] = sym p ∙ q in
      cc

  -- WHAT A ROW MEANS
  pub means : Means row
  means =
      record {
        statement = accepts row;
        eighteen = λ i. (λ e. to_eighteen i ((exactly row 18 i).0 e), from_eighteen i);
        nineteen =
            λ i. (λ e. to_nineteen i ((exactly row 19 i).0 e), λ n. (exactly row 19 i).1 (deep n.deep n.earlier));
        no_other = λ c i e. two_codes c i ((exactly row c i).0 e);
        seventeen = λ i E. (known i E).before;
        sixteen = λ i E. (known i E).before_calm;
        one = one_statement;
      }

-- the exception stands: as many openings as levels and then a function's name begin a statement with one level more
-- than there may be, and none with as many as there may be
pub exception : Front (suc levels) (deepest levels) × (Front levels (deepest levels) → ⊥)
exception = (loose levels, tight levels)
