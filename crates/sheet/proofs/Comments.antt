-- A comment line more moves the numbers of what is said and of the faults, and nothing else.
use Prim.Native.Nat.{ℕ, suc, ◌+◌}
use mathlib.Core.Path.{◌≡◌, refl, sym, ap, ap₂, ◌∙◌}
use mathlib.Core.Bool.{true, cond}
use lib.Dec.{ltb}
use mathlib.Core.List.{List, [], ◌∷◌, ◌++◌, map}
use mathlib.Core.Logic.{⊎_elim}
use native.Mathlib.Omega.{arith}
use lib.ListN.{length, length-map}
use borrow.Author.Tests.{lt-ltb, le-ltb}
use Rattle.laws.proofs.Tests.{lt_or_ge}
use Rattle.laws.proofs.Concats.{concat_mapped}
use Rattle.laws.proofs.Pairs.{pairs_length, pairs_concat}
use Rattle.deck.specs.Lines.{Line, lines_of, starred}
use Rattle.deck.specs.Reading.{Statement, cards_of, fresh, reading}
use Rattle.deck.specs.Reports.{Report, report}
use Rattle.deck.specs.Spots.{spot_of}
use Rattle.deck.specs.Later.{line_moved}
use Rattle.deck.specs.declared.Place.{Place}
use Rattle.deck.specs.declared.Spot.{Spot}
use Rattle.deck.proofs.Cards.{cards_append}
use Rattle.deck.proofs.Comments.{Beside, before, behind, between, moved_stays, moved_raised, statements_commented}
use Rattle.deck.proofs.Covered.{spot_within}
use Rattle.deck.proofs.Commented.{lowered, spot_commented}
use Rattle.sheet.specs.Sheet.{Told, says, faulty, Sheet, Numbered, Fault, said_by, fault_by, said, statement_faults}
use Rattle.sheet.specs.Reader.{cards_told, spotted, told, sheet_of}
use Rattle.sheet.specs.Numbers.{renumber_fault}
use Rattle.sheet.proofs.Numbers.{renumber_numbered}

-- a sheet, and one with the lines that g gives: as many reports, what they say renumbered, and their faults
pub record Renumbered (g : ℕ → ℕ) (old new : Sheet) : Type 0 where
  pub many : length new ≡ length old
  pub all_said : said new ≡ map (renumber_numbered g) (said old)
  pub all_faults : statement_faults new ≡ map (renumber_fault g) (statement_faults old)

-- ---- one statement: its cards tell t; its first line l and its lines ls become l' and ls'
module _ (g : ℕ → ℕ) (l l' : ℕ) (ls ls' : List Line) (first : l' ≡ g l) where
  -- what it says has the other number
  said_moved : (t : Told Place) → said_by l' (spotted ls' t) ≡ map (renumber_numbered g) (said_by l (spotted ls t))
  said_moved (says x) = rw first
  said_moved (faulty c p) = refl

  -- its fault has the other lines, where its spots have
  faults_moved : ((p : Place) → l' + (spot_of ls' p).down ≡ g (l + (spot_of ls p).down))
      → ((p : Place) → (spot_of ls' p).column ≡ (spot_of ls p).column)
      → (t : Told Place) → fault_by l' (spotted ls' t) ≡ map (renumber_fault g) (fault_by l (spotted ls t))
  faults_moved lines columns (says x) = refl
  faults_moved lines columns (faulty c p) =
      let place : ℕ → ℕ → ℕ → List Fault =
      λ (a b k : ℕ). record { line = a; code = c; place = b; column = k } ∷ [] in
      ap (λ (a : ℕ). place a (l' + (spot_of ls' p).down) (spot_of ls' p).column) first
      ∙ ap₂ (place (g l)) (lines p) (columns p)

-- ---- the comment c behind line n
module _ (c : Line) (star : starred c ≡ true) (n : ℕ) where
  -- it is no card
  cards_kept : (x y : List Line) → cards_of (x ++ (c ∷ y)) ≡ cards_of (x ++ y)
  unfolding cards_of
  cards_kept x y = cards_append x (c ∷ y) ∙ rw star (sym (cards_append x y))

  -- a line of a statement around it: above it the line stays, below it is moved
  line_between : (f k d : ℕ) → f + k ≡ suc n → f + cond (ltb d k) d (suc d) ≡ line_moved n (f + d)
  line_between f k d e =
      ⊎_elim (λ h. rw (lt-ltb d k h) (sym (moved_stays n (f + d) (omega arith))))
      (λ h. rw (le-ltb d k h) (let up = moved_raised n (f + d) (omega arith) in omega (arith, up)))
      (lt_or_ge d k)

  -- of statements that belong together what is said has its number moved
  said_beside : (s t : Statement) → Beside c n s t
      → said_by t.first (told t.lines t.closed)
      ≡ map (renumber_numbered (line_moved n)) (said_by s.first (told s.lines s.closed))
  unfolding told
  said_beside s t (before z some h) =
      said_moved (line_moved n) z.first z.first z.lines z.lines
      (sym (moved_stays n z.first (omega arith))) (cards_told (cards_of z.lines) z.closed)
  said_beside s t (behind f ls d h) =
      said_moved (line_moved n) f (suc f) ls ls (sym (moved_raised n f h)) (cards_told (cards_of ls) d)
  said_beside s t (between f x y d some e) =
      rw (cards_kept x y)
      (said_moved (line_moved n) f f (x ++ y) (x ++ (c ∷ y)) (sym (moved_stays n f (omega arith)))
      (cards_told (cards_of (x ++ y)) d))

  -- and so have the faults, and the lines of their places
  faults_beside : (s t : Statement) → Beside c n s t
      → fault_by t.first (told t.lines t.closed)
      ≡ map (renumber_fault (line_moved n)) (fault_by s.first (told s.lines s.closed))
  unfolding told
  faults_beside s t (before z some h) =
      faults_moved (line_moved n) z.first z.first z.lines z.lines
      (sym (moved_stays n z.first (omega arith)))
      (λ p. sym (moved_stays n (z.first + (spot_of z.lines p).down) (omega (arith, spot_within z.lines p some))))
      (λ p. refl) (cards_told (cards_of z.lines) z.closed)
  faults_beside s t (behind f ls d h) =
      faults_moved (line_moved n) f (suc f) ls ls (sym (moved_raised n f h))
      (λ p. let up = moved_raised n (f + (spot_of ls p).down) (omega arith) in omega (arith, up))
      (λ p. refl) (cards_told (cards_of ls) d)
  faults_beside s t (between f x y d some e) =
      let spots : (p : Place) → spot_of (x ++ (c ∷ y)) p ≡ lowered (length x) (spot_of (x ++ y) p) =
      λ p. spot_commented c star x y p some in
      rw (cards_kept x y)
      (faults_moved (line_moved n) f f (x ++ y) (x ++ (c ∷ y)) (sym (moved_stays n f (omega arith)))
      (λ p. ap (λ (z : Spot). f + z.down) (spots p) ∙ line_between f (length x) (spot_of (x ++ y) p).down e)
      (λ p. ap (λ (z : Spot). z.column) (spots p))
      (cards_told (cards_of (x ++ y)) d))

-- THE SHEET of a text b that has the comment c behind the lines pre, and of a text a that has it not
pub sheet_commented : (pre : List Line) (c : Line) (post : List Line) (a b : List ℕ) → lines_of a ≡ pre ++ post
    → lines_of b ≡ pre ++ (c ∷ post) → starred c ≡ true
    → Renumbered (line_moved (length pre)) (sheet_of a) (sheet_of b)
unfolding sheet_of
sheet_commented pre c post a b without with star =
    let n = length pre in
    let old = reading fresh 1 (pre ++ post) in
    let new = reading fresh 1 (pre ++ (c ∷ post)) in
    let pairs = statements_commented c star pre post in
    let by_said : Report (Told Spot) → List Numbered = λ (r : Report (Told Spot)). said_by r.line r.what in
    let by_fault : Report (Told Spot) → List Fault = λ (r : Report (Told Spot)). fault_by r.line r.what in
    rw (with, without)
    (record {
      many =
          length-map new (report told) ∙ pairs_length (Beside c n) old new pairs ∙ sym (length-map old (report told));
      all_said =
          concat_mapped by_said (report told) new
          ∙ pairs_concat (Beside c n) _ _ (renumber_numbered (line_moved n)) (said_beside c star n) old new pairs
          ∙ sym (ap (map (renumber_numbered (line_moved n))) (concat_mapped by_said (report told) old));
      all_faults =
          concat_mapped by_fault (report told) new
          ∙ pairs_concat (Beside c n) _ _ (renumber_fault (line_moved n)) (faults_beside c star n) old new pairs
          ∙ sym (ap (map (renumber_fault (line_moved n))) (concat_mapped by_fault (report told) old));
    })
