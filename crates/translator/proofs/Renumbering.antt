-- A sheet with the line numbers that g gives for its own: the decision has its lines likewise, and is the same else.
use Prim.Native.Nat.{ℕ, ◌/◌}
use mathlib.Core.Path.{◌≡◌, refl, ap, ap₂, ◌∙◌}
use mathlib.Core.Bool.{Bool, true, false, cond, ◌||◌}
use mathlib.Core.List.{List, [], ◌∷◌, map}
use lib.Dec.{ltb}
use lib.ListN.{length, length-map}
use Rattle.limits.specs.Limits.{most_statements, most_definitions, most_records, record_bytes, fault_room, text_bytes}
use Rattle.limits.specs.Limits.{text_lines}
use Rattle.deck.specs.Lines.{lines_of}
use Rattle.sheet.specs.Sheet.{Sheet, Numbered, Fault, said, statement_faults}
use Rattle.sheet.specs.Reader.{sheet_of}
use Rattle.sheet.specs.Numbers.{renumber_fault}
use Rattle.sheet.proofs.Numbers.{renumber_numbered}
use Rattle.sheet.proofs.Comments.{Renumbered}
use Rattle.blocks.specs.Units.{TextUnit}
use Rattle.blocks.specs.Members.{settings, units_of}
use Rattle.blocks.proofs.Renumbering.{renumber_unit, settings_kept, units_renumbered}
use Rattle.model.specs.Faults.{order_of}
use Rattle.model.specs.Text.{line_at, model_faults_in}
use Rattle.model.proofs.Renumbering.{line_renumbered, order_kept, faults_in_renumbered}
use Rattle.records.specs.Record.{Rec, renumber_rec}
use Rattle.program.specs.Program.{program}
use Rattle.program.proofs.Renumbering.{program_renumbered}
use Rattle.translator.specs.Verdict.{Decision, refused, faulty, translated, if_faults, fitted, programmed}
use Rattle.translator.specs.Verdict.{modelled, decided, decided_within, verdict_of, verdict_within, number_of}
use Rattle.translator.specs.Verdict.{count_of}
use Rattle.translator.specs.Refusals.{Admitted}
use Rattle.translator.specs.Contract.{lines_in}
use Rattle.translator.specs.Renumbered.{renumber_decision}

module _ (g : ℕ → ℕ) where
  -- ---- a decision renumbered

  -- its number is the same
  pub number_kept : (v : Decision) → number_of (renumber_decision g v) ≡ number_of v
  number_kept (refused n) = refl
  number_kept (faulty n fs) = refl
  number_kept (translated rs ls) = refl

  -- and its count
  pub count_kept : (v : Decision) → count_of (renumber_decision g v) ≡ count_of v
  count_kept (refused n) = refl
  count_kept (faulty n fs) = length-map fs (renumber_fault g)
  count_kept (translated rs ls) = length-map rs (renumber_rec g)

  -- and the first lines that it names are renumbered
  pub lines_moved : (v : Decision) → lines_in (renumber_decision g v) ≡ map g (lines_in v)
  lines_moved (refused n) = refl
  lines_moved (faulty n fs) = refl
  lines_moved (translated rs ls) = refl

  -- refused if a test holds, else decided further
  test_renumbered : (t : Bool) (n : ℕ) (v : Decision) {w : Decision} → w ≡ renumber_decision g v
      → cond t (refused n) w ≡ renumber_decision g (cond t (refused n) v)
  test_renumbered true n v p = refl
  test_renumbered false n v p = p

  -- faulty if some fault stands, else decided further
  faulty_renumbered : (n : ℕ) (fs : List Fault) (v : Decision) {es : List Fault} {w : Decision}
      → es ≡ map (renumber_fault g) fs → w ≡ renumber_decision g v
      → if_faults n es w ≡ renumber_decision g (if_faults n fs v)
  faulty_renumbered n fs v p q = ap₂ (if_faults n) p q ∙ go fs
    where
      go : (fs : List Fault) → if_faults n (map (renumber_fault g) fs) (renumber_decision g v)
          ≡ renumber_decision g (if_faults n fs v)
      go [] = refl
      go (f ∷ fs) = refl

  -- ---- from the last decision to the first

  -- 8 and 0
  fitted_renumbered : (room : ℕ) (rs : List Rec) (ls : List ℕ)
      → fitted room (map (renumber_rec g) rs) (map g ls) ≡ renumber_decision g (fitted room rs ls)
  fitted_renumbered room rs ls =
      rw (length-map rs (renumber_rec g))
      (test_renumbered (ltb most_records (length rs) || ltb (room / record_bytes) (length rs)) 8
      (translated rs ls) refl)

  module _ (z : g 0 ≡ 0) where
    -- the lines of the ordered units
    lines_renumbered : (us : List TextUnit) (q : List ℕ)
        → map (line_at (map (renumber_unit g) us)) q ≡ map g (map (line_at us) q)
    lines_renumbered us [] = refl
    lines_renumbered us (i ∷ q) = ap₂ ◌∷◌ (line_renumbered g z us i) (lines_renumbered us q)

    -- the program with them
    programmed_renumbered : (room : ℕ) (us : List TextUnit)
        → programmed room (map (renumber_unit g) us) ≡ renumber_decision g (programmed room us)
    programmed_renumbered room us =
        let new = map (renumber_unit g) us in
        let q = order_of us in
        ap (λ q. fitted room (program new q) (map (line_at new) q)) (order_kept g z us)
        ∙ ap₂ (fitted room) (program_renumbered g z us q) (lines_renumbered us q)
        ∙ fitted_renumbered room (program us q) (map (line_at us) q)

    -- 6 and 7
    modelled_renumbered : (room : ℕ) (ss : List Numbered)
        → modelled room (map (renumber_numbered g) ss) ≡ renumber_decision g (modelled room ss)
    modelled_renumbered room ss =
        let next = ap (programmed room) (units_renumbered g ss) ∙ programmed_renumbered room (units_of ss) in
        let faults =
        faulty_renumbered 7 (model_faults_in ss) (programmed room (units_of ss)) (faults_in_renumbered g z ss) next in
        rw (settings_kept g ss) (test_renumbered (ltb most_definitions (length (settings ss))) 6 _ faults)

-- THE DECISION on a renumbered sheet is renumbered: 4, 5 and the rest
pub decided_renumbered : (g : ℕ → ℕ) → g 0 ≡ 0 → (room : ℕ) (old new : Sheet) → Renumbered g old new
    → decided room new ≡ renumber_decision g (decided room old)
unfolding decided_within
decided_renumbered g z room old new w =
    let next = ap (modelled room) w.all_said ∙ modelled_renumbered g z room (said old) in
    let faults = faulty_renumbered g 5 (statement_faults old) (modelled room (said old)) w.all_faults next in
    rw w.many (test_renumbered g (ltb most_statements (length old)) 4 _ faults)

-- 1, 2 and 3 stand before what is decided by the sheet
abbrev sized : Bool → Bool → Bool → Decision → Decision
sized room bytes lines d = cond room (refused 1) (cond bytes (refused 2) (cond lines (refused 3) d))

-- THE VERDICT on a text whose sheet is another's renumbered, where neither is refused for size
pub verdict_renumbered : (g : ℕ → ℕ) → g 0 ≡ 0 → (a b : List ℕ) → Renumbered g (sheet_of a) (sheet_of b)
    → (f p : ℕ) → Admitted (verdict_of a f p) → Admitted (verdict_of b f p)
    → verdict_of b f p ≡ renumber_decision g (verdict_of a f p)
unfolding verdict_within
verdict_renumbered g z a b sheet f p ok_a ok_b =
    go (ltb f fault_room) (ltb text_bytes (length a)) (ltb text_lines (length (lines_of a))) (ltb text_bytes (length b))
    (ltb text_lines (length (lines_of b))) (decided p (sheet_of a)) (decided p (sheet_of b))
    (decided_renumbered g z p (sheet_of a) (sheet_of b) sheet)
    ok_a.not_two ok_a.not_three ok_b.not_two ok_b.not_three
  where
    go : (room bytes lines bytes' lines' : Bool) (x y : Decision) → y ≡ renumber_decision g x
        → (number_of (sized room bytes lines x) ≡ 2 → ⊥) → (number_of (sized room bytes lines x) ≡ 3 → ⊥)
        → (number_of (sized room bytes' lines' y) ≡ 2 → ⊥) → (number_of (sized room bytes' lines' y) ≡ 3 → ⊥)
        → sized room bytes' lines' y ≡ renumber_decision g (sized room bytes lines x)
    go true bytes lines bytes' lines' x y e p q r s = refl
    go false true lines bytes' lines' x y e p q r s = absurd (p refl)
    go false false true bytes' lines' x y e p q r s = absurd (q refl)
    go false false false true lines' x y e p q r s = absurd (r refl)
    go false false false false true x y e p q r s = absurd (s refl)
    go false false false false false x y e p q r s = e
