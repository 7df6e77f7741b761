-- Reading without a count of calls: its clauses, and its places in a row.
use Prim.Native.Nat.{ℕ, zero, suc, ◌+◌, ◌-◌, ◌*◌, ◌≤◌, ◌<◌}
use mathlib.Core.Path.{◌≡◌, refl, sym, ap, ◌∙◌}
use mathlib.Core.List.{List, [], ◌∷◌, ◌++◌}
use native.Mathlib.Omega.{arith}
use native.Mathlib.Numerals.{add-one}
use lib.Dec.{eqb}
use lib.ListN.{length, length-append, get_or, drop, length-drop}
use lib.Seq.{drop-append_seam, drop-drop}
use Rattle.tokens.specs.Symbol.{Symbol, mark}
use Rattle.drafts.specs.Tree.{Tree, two}
use Rattle.drafts.specs.Kinds.{kind_two}
use Rattle.drafts.specs.Drafts.{draft, drafted}
use Rattle.grammar.specs.Look.{next, rest, byte_of, add_op, mul_op, signed, Opening, group, give_to, factor_start}
use Rattle.grammar.specs.Grammar.{Mode, expr, term, factor, terms, factors, opened, list}
use Rattle.grammar.specs.Parser.{give, stop, tell, bind, when, by_op, by_factor, by_given, need, behind_sign}
use Rattle.grammar.specs.Parser.{sign_drafts, open_drafts, one_call, parse, rank, reads}
use Rattle.grammar.proofs.Sound.{At}
use Rattle.grammar.proofs.Enough.{step_cong, enough}

-- every count that suffices gives it
pub to_reads : (f : ℕ) (m : Mode) (d : ℕ) (s : List Symbol) → At m s → rank m + 5 * length s < f
    → parse f m d s ≡ reads m d s
unfolding reads
to_reads f m d s p b = enough f (suc (rank m + 5 * length s)) m d s p b (omega arith)

-- it obeys the clauses of `parse`
reads_step : (m : Mode) (d : ℕ) (s : List Symbol) → At m s → reads m d s ≡ one_call reads m d s
unfolding reads parse
reads_step m d s p = let n = rank m + 5 * length s in step_cong n reads m d s p λ k D u q l. to_reads n k D u q l

module _ (d : ℕ) (s : List Symbol) where
  -- an expression: a sign or none, a term, and terms behind it
  pub reads_expr : reads expr d s
      ≡ (let o = add_op (next s) in bind (reads term d (behind_sign o s)) λ e t. tell (sign_drafts o)
      (reads (terms (signed o e)) d t))
  reads_expr = reads_step expr d s tt

  -- terms behind the tree l
  pub reads_terms : (l : Tree) → reads (terms l) d s
      ≡ by_op (add_op (next s)) (λ _. give l s) λ o. bind (reads term d (rest s))
      λ e t. tell (draft (kind_two o) 0 ∷ []) (reads (terms (two o l e)) d t)
  reads_terms l = reads_step (terms l) d s tt

  -- a term: a factor, and factors behind it
  pub reads_term : reads term d s ≡ bind (reads factor d s) λ e t. reads (factors e) d t
  reads_term = reads_step term d s tt

  -- factors behind the tree l
  pub reads_factors : (l : Tree) → reads (factors l) d s
      ≡ by_op (mul_op (next s)) (λ _. give l s) λ o. bind (reads factor d (rest s))
      λ e t. tell (draft (kind_two o) 0 ∷ []) (reads (factors (two o l e)) d t)
  reads_factors l = reads_step (factors l) d s tt

  -- a factor, by what its token begins
  pub reads_factor : reads factor d s
      ≡ by_factor (factor_start (next s)) (λ e. tell (drafted e) (give e (rest s))) (λ _. reads (opened group) d s)
      (λ p. when (eqb (byte_of (next (rest s))) 40) (λ _. reads (opened p) d (rest s)) (λ _. stop 18 (rest s)))
      (λ _. stop 18 s)
  reads_factor = reads_step factor d s tt

  -- an opening, with a level left
  pub reads_opened : (p : Opening) → next s ≡ mark 40 → reads (opened p) (suc d) s ≡ reads (list p) d (rest s)
  reads_opened p h = reads_step (opened p) (suc d) s h

  -- an expression for the opening p, and what stands behind it
  pub reads_list : (p : Opening) → reads (list p) d s
      ≡ bind (reads expr d s) λ e t.
      by_given (give_to p e) (λ x. need 41 t λ u. tell (open_drafts p) (give x u)) (λ q. need 44 t (reads (list q) d))
  reads_list p = reads_step (list p) d s tt

-- an opening, with no level left
pub reads_deep : (s : List Symbol) (p : Opening) → reads (opened p) zero s ≡ stop 19 s
unfolding reads parse
reads_deep s p = refl

-- ---- places: at place i of a row stands `drop i row`

-- the token at place i is next
pub next_at : (row : List Symbol) (i : ℕ) → next (drop i row) ≡ get_or row i (mark 0)
unfolding next
next_at [] zero = refl
next_at [] (suc i) = refl
next_at (t ∷ row) zero = refl
next_at (t ∷ row) (suc i) = next_at row i

-- the rest begins at the next place
rest_suc : (row : List Symbol) (i : ℕ) → rest (drop i row) ≡ drop (suc i) row
unfolding rest
rest_suc [] zero = refl
rest_suc [] (suc i) = refl
rest_suc (t ∷ row) zero = refl
rest_suc (t ∷ row) (suc i) = rest_suc row i

-- the same, in the code's form
pub rest_at : (row : List Symbol) (i : ℕ) → rest (drop i row) ≡ drop (i + 1) row
rest_at row i = rw add-one (rest_suc row i)

-- what is left of a part of the row is a part of the row, at the place that its length tells
pub left_at : (row w t : List Symbol) (i : ℕ) → i ≤ length row → drop i row ≡ w ++ t
    → t ≡ drop (length row - length t) row
left_at row w t i le h =
    let a = length-append w t in
    let b = ap length h in
    let c = length-drop i row in
    let n : i + length w ≡ length row - length t = omega arith in
    sym (drop-append_seam w t) ∙ ap (drop (length w)) (sym h) ∙ drop-drop (length w) i row
    ∙ ap (λ (k : ℕ). drop k row) n
