-- What is written by number and counts, from what a translation left, is the listing.
use Prim.Native.Nat.{ℕ, ◌+◌, ◌≤◌}
use mathlib.Core.Path.{◌≡◌, refl, ap, ◌∙◌}
use mathlib.Core.List.{List, [], ◌++◌, append-nil}
use native.Mathlib.Omega.{arith}
use borrow.Author.Tests.{ne_eqb}
use lib.ListN.{length, drop, replicate, length-replicate}
use lib.Seq.{sets}
use Rattle.std.specs.Prelude.{Result, Ok, Err}
use Rattle.limits.specs.Limits.{fault_room, most_statements, most_records, program_room}
use Rattle.laws.specs.Places.{gather}
use Rattle.laws.specs.Put.{Put}
use Rattle.laws.proofs.Along.{gather_part}
use Rattle.sheet.specs.Sheet.{fault_list}
use Rattle.sheet.proofs.Entries.{list_length}
use Rattle.translator.specs.Verdict.{Decision, refused, faulty, translated, verdict_of}
use Rattle.translator.specs.Verdict.{number_of, count_of, faults_after, Translation, translation}
use Rattle.translator.specs.declared.Ordered.{Ordered}
use Rattle.translator.specs.declared.Refusal.{Refusal}
use Rattle.translator.specs.Contract.{number_in, count_in, records_answered, units_in, lines_in, OrderedReply}
use Rattle.translator.specs.Contract.{TranslatesInOrder}
use Rattle.translator.proofs.Counted.{few, count_few, lines_few}
use Rattle.translator.proofs.Verdicts.{by_number, without_order, number_above}
use Rattle.listing_text.specs.Listing.{line, listing_of, listing}
use Rattle.listing_text.specs.Written.{fault_at, ordered_at, head, written}
use Rattle.listing_text.specs.Contract.{Lists}
use Rattle.listing_text.proofs.Back.{front, faults_back}
use Rattle.listing_text.proofs.Fair.{Fair, fair}

-- ---- of a text, where the lent bytes f and the places o have room
module _ (text f p o : List ℕ) (room_faults : fault_room ≤ length f) (room_order : most_statements ≤ length o) where
  abbrev verdict : Decision
  verdict = verdict_of text (length f) (length p)

  -- what is written is what is listed of its verdict
  written_of : (v : Decision) → verdict ≡ v → Fair v
      → written (number_of v) (count_of v) (length (lines_in v)) (faults_after v f) (sets o 0 (lines_in v))
      ≡ listing_of v
  unfolding written listing_of gather
  written_of (refused n) e h = rw (ne_eqb n 0 (λ e. omega arith)) (append-nil (head 78 79 n))
  written_of (faulty n fs) e h =
      let most : length fs ≤ most_statements = rw e at (few text (length f) (length p)) in
      let fits : length (fault_list fs) ≤ length f = omega (arith, list_length fs) in
      rw (ne_eqb n 0 (λ e. omega (arith, h.0)), front f (fault_list fs) fits)
      (ap (λ (l : List ℕ). head 78 79 n ++ l) (faults_back fs (drop (0 + length (fault_list fs)) f) h.1))
  written_of (translated rs ls) e h =
      let most = lines_few verdict (few text (length f) (length p)) in
      let fits : length ls ≤ length o = omega (arith, ap (λ (v : Decision). length (lines_in v)) e, most) in
      let rest = drop (0 + length ls) o in
      rw (front o ls fits)
      (ap (λ (l : List ℕ). head 79 75 (length rs) ++ l)
      (gather_part (ordered_at (ls ++ rest)) line 0 [] ls rest (λ i. refl)))

  -- where translating it answers r and leaves f', p' and o'
  module _ (r : Result Ordered Refusal) {f' p' o' : List ℕ} (e : TranslatesInOrder text f p o r f' p' o') where
    -- both counts are small
    counts_of : (count_in (records_answered r) ≤ most_records) × (units_in r ≤ most_records)
    unfolding translation
    counts_of =
        let t = by_number text f p (records_answered r) (without_order text f p o r e) in
        let all = few text (length f) (length p) in (
          rw (ap (λ (x : Translation). x.count) t) (count_few verdict all),
          omega (arith, ap (λ (x : OrderedReply). x.units) e, lines_few verdict all),
        )

    -- and what is written of that is what is listed
    listed_of : written (number_in (records_answered r)) (count_in (records_answered r)) (units_in r) f' o'
        ≡ listing_of verdict
    unfolding translation
    listed_of =
        let t = by_number text f p (records_answered r) (without_order text f p o r e) in
        rw (
          ap (λ (x : Translation). x.number) t,
          ap (λ (x : Translation). x.count) t,
          ap (λ (x : OrderedReply). x.units) e,
          ap (λ (x : Translation). x.faults) t,
          ap (λ (x : OrderedReply). x.order) e,
        )
        (written_of verdict refl (fair text (length f) (length p)))

-- ---- what is lent
abbrev lent : ℕ → List ℕ
lent n = replicate n 0

-- there are so many
lent_length : (n : ℕ) → length (lent n) ≡ n
lent_length n = length-replicate {A = ℕ} n 0

-- so there is room
lent_room : (n : ℕ) → n ≤ length (lent n)
lent_room n = omega (arith, lent_length n)

-- where translating a text into them answers r and leaves f, p and o
module _ (text : List ℕ) (r : Result Ordered Refusal) {f p o : List ℕ}
    (e : TranslatesInOrder text (lent fault_room) (lent program_room) (lent most_statements) r f p o) where
  -- both counts are small
  pub counts_small : (count_in (records_answered r) ≤ most_records) × (units_in r ≤ most_records)
  counts_small =
      counts_of text (lent fault_room) (lent program_room) (lent most_statements) (lent_room fault_room)
      (lent_room most_statements) r e

  -- THE LISTING: what is written is the text's
  listing_is : written (number_in (records_answered r)) (count_in (records_answered r)) (units_in r) f o ≡ listing text
  unfolding listing
  listing_is =
      listed_of text (lent fault_room) (lent program_room) (lent most_statements) (lent_room fault_room)
      (lent_room most_statements) r e
      ∙ rw (lent_length fault_room, lent_length program_room)

  -- so it is what is promised
  pub lists : {n : ℕ} {out out' : List ℕ}
      → Put (written (number_in (records_answered r)) (count_in (records_answered r)) (units_in r) f o) 0 n out out'
      → Lists text out n out'
  lists w = record { needed = w.behind ∙ rw listing_is (omega arith); held = w.written ∙ rw listing_is }

-- ---- by the answer

-- of a translated text: the records, and the lines of the units
pub lists_order : (text : List ℕ) (done : Ordered) {f p o : List ℕ}
    → TranslatesInOrder text (lent fault_room) (lent program_room) (lent most_statements) (Ok done) f p o
    → {n : ℕ} {out out' : List ℕ} → Put (head 79 75 done.records ++ gather (ordered_at o) done.units 0) 0 n out out'
    → Lists text out n out'
unfolding written
lists_order text done e w = lists text (Ok done) e w

-- of a refusal: its number, and the lines of the faults
pub lists_refusal : (text : List ℕ) (x : Refusal) {f p o : List ℕ}
    → TranslatesInOrder text (lent fault_room) (lent program_room) (lent most_statements) (Err x) f p o
    → {n : ℕ} {out out' : List ℕ}
    → Put (head 78 79 (number_in (Err x)) ++ gather (fault_at f) (count_in (Err x)) 0) 0 n out out'
    → Lists text out n out'
unfolding written
lists_refusal text x e w =
    lists text (Err x) e (rw (ne_eqb (number_in (Err x)) 0 (λ z. omega (arith, z, number_above x))) w)
