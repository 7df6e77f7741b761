-- One turn of reading after the other, in buffers that keep their lengths.
use Prim.Native.Nat.{ℕ, ◌+◌, ◌-◌, ◌≤◌, ◌<◌}
use mathlib.Core.Path.{◌≡◌, refl, ap, ◌∙◌}
use mathlib.Core.Bool.{Bool, true, false}
use mathlib.Core.List.{List, ◌∷◌, ◌++◌, map}
use native.Mathlib.Omega.{arith}
use lib.ListN.{length, length-append, length-set}
use lib.Seq.{length-sets}
use Rattle.std.specs.Prelude.{Some, None}
use Rattle.limits.specs.Limits.{most_statements}
use Rattle.deck.specs.Joined.{joined}
use Rattle.deck.specs.Reading.{Statement as Found}
use Rattle.deck.specs.Codes.{size_code}
use Rattle.deck.specs.Reports.{report}
use Rattle.deck.specs.Next.{lines_at, cards_at, statements_from, found_from}
use Rattle.deck.specs.declared.Cursor.{Cursor}
use Rattle.deck.specs.declared.Statement.{Statement}
use Rattle.deck.specs.Walks.{Walk}
use Rattle.deck.proofs.Walking.{walk, walk_end}
use Rattle.sheet.specs.Sheet.{Told, says, faulty}
use Rattle.sheet.specs.Reader.{told, sheet_of}
use Rattle.sheet.proofs.StatementMeans.{told_says}
use Rattle.translator.specs.declared.SoFar.{SoFar}
use Rattle.translator.specs.Working.{Able, AddsOf, Adds, Progress, Room, ReadThrough}
use Rattle.translator.proofs.Counted.{counts}
use Rattle.deck.specs.declared.Spot.{Spot}
use Rattle.translator.proofs.Parsing.{drafts_few}
use Rattle.translator.proofs.Spans.{Span, span}
use Rattle.translator.proofs.Progress.{progress_first, progress_said, progress_faulty, progress_last}

-- a statement without fault for size is closed
closed : (k : ℕ) (d long : Bool) → size_code k d long ≡ 0 → d ≡ true
closed k true long h = refl
closed k false long h = absurd (omega arith)

-- what is read so far, no more than there may be; the buffers are as long as those of the beginning
pub record Going (text kinds₀ args₀ lines₀ bounds₀ list₀ kinds args lines bounds list : List ℕ) (n : SoFar)
    (c : Cursor) : Type 0 where
  pub progress : Progress text list₀ c n kinds args lines bounds list
  pub few : n.statements + n.faults ≤ most_statements
  pub long_kinds : length kinds ≡ length kinds₀
  pub long_args : length args ≡ length args₀
  pub long_lines : length lines ≡ length lines₀
  pub long_bounds : length bounds ≡ length bounds₀

module _ {text kinds args lines bounds list : List ℕ} where
  -- the beginning
  pub going_first : Room text list kinds args lines bounds
      → Going text kinds args lines bounds list kinds args lines bounds list
      (record { statements = 0; drafts = 0; faults = 0 }) (record { at = 0; line = 1 })
  going_first r =
      record {
        progress = progress_first text list kinds args lines bounds r.bounds_first;
        few = omega arith;
        long_kinds = refl;
        long_args = refl;
        long_lines = refl;
        long_bounds = refl;
      }

module _ {text kinds₀ args₀ lines₀ bounds₀ list₀ kinds args lines bounds list : List ℕ} {n : SoFar} {c : Cursor}
    (room : Room text list₀ kinds₀ args₀ lines₀ bounds₀)
    (g : Going text kinds₀ args₀ lines₀ bounds₀ list₀ kinds args lines bounds list n c) where
  -- the list keeps its length too
  pub going_list : length list ≡ length list₀
  going_list = ap length g.progress.listed ∙ simp length-sets

  -- the end: all is read, and that is no more than there may be
  pub going_last : found_from text c ≡ None
      → ReadThrough text list₀ n kinds args lines bounds list × (length (sheet_of text) ≤ most_statements)
  going_last e =
      let all = progress_last g.progress (walk_end text c g.progress.lawful e) in
      (all, omega (arith, g.few, all.statements, all.faults, counts (sheet_of text)))

  module _ {x : Statement} (e : found_from text c ≡ Some x) where
    -- the walk over it
    step : Walk text c x.first x.start x.lines x.cards x.closed x.long x.next
    step = walk text c g.progress.lawful e

    -- behind it fewer bytes are left
    pub going_less : length text - x.next.at < length text - c.at
    going_less = omega (arith, step.bytes, step.further)

    -- its joined text stands before the next cursor, and within the text
    near : Span text c.at x.start x.lines x.next.at
    near = span text c step

    -- there is one more statement than those that are read
    pub left : n.statements + n.faults < length (sheet_of text)
    left =
        let p = g.progress in
        let one : Found = record { first = x.first; lines = lines_at text x.start x.lines; closed = x.closed } in
        let all : sheet_of text ≡ p.done ++ (report told one ∷ map (report told) (statements_from text x.next)) =
        p.split ∙ ap (λ (r : List Found). p.done ++ map (report told) r) step.reads in
        let many = length-append p.done (report told one ∷ map (report told) (statements_from text x.next)) in
        omega (arith, ap length all, many, counts p.done, p.statements, p.faults)

    -- its drafts have no room: the text has more bytes than there are places
    pub going_full : length kinds < n.drafts + (x.next.at - 1 - x.start) → length kinds < length text
    going_full h = omega (arith, g.progress.short, near.within)

    -- what reading it asks, if it is not one too many, with room for its drafts
    pub going_able : n.statements + n.faults < most_statements → n.drafts + (x.next.at - 1 - x.start) ≤ length kinds
        → Able text x n kinds args lines bounds
    going_able more fits =
        let p = g.progress in
        let places : n.drafts + length (joined (cards_at text x.start x.lines)) ≤ length text =
        omega (arith, p.short, near.fewer, near.within) in
        record {
          before =
              record {
                size = step.size;
                short = step.short;
                alone = λ z one. step.alone one (closed x.cards x.closed x.long z);
                room_kinds = omega (arith, near.fewer);
                room_args = omega (arith, near.fewer, room.args_room, g.long_kinds, g.long_args);
              };
          first_fits = omega (arith, step.near, room.taken.brief);
          brief = room.taken.brief;
          drafts_fit = omega (arith, places, room.taken.brief);
          lines_room = omega (arith, room.lines_room, g.long_lines);
          bounds_room = omega (arith, room.bounds_room, g.long_bounds);
          faults_fit = omega arith;
        }

    -- behind it
    pub going_next : {kinds' args' lines' bounds' list' : List ℕ} {n' : SoFar}
        → n.statements + n.faults < most_statements → n.drafts + (x.next.at - 1 - x.start) ≤ length kinds
        → Adds (told (lines_at text x.start x.lines) x.closed) x.first n kinds args lines bounds list n'
        kinds' args' lines' bounds' list'
        → Going text kinds₀ args₀ lines₀ bounds₀ list₀ kinds' args' lines' bounds' list' n' x.next
    going_next {kinds'} {args'} {lines'} {bounds'} {list'} {n'} more fits w =
        let both = go (told (lines_at text x.start x.lines) x.closed) refl w.by_told in
        record {
          progress = both.0;
          few = both.3;
          long_kinds = w.long_kinds ∙ g.long_kinds;
          long_args = w.long_args ∙ g.long_args;
          long_lines = both.1 ∙ g.long_lines;
          long_bounds = both.2 ∙ g.long_bounds;
        }
      where
        go : (t : Told Spot) → told (lines_at text x.start x.lines) x.closed ≡ t
            → AddsOf t x.first n kinds args lines bounds list n' kinds' args' lines' bounds' list'
            → Progress text list₀ x.next n' kinds' args' lines' bounds' list' × (length lines' ≡ length lines)
            × (length bounds' ≡ length bounds) × (n'.statements + n'.faults ≤ most_statements)
        go (says y) q (en, ek, ea, el, eb, ef) =
            let said = told_says (lines_at text x.start x.lines) x.closed y q in
            let few = drafts_few (cards_at text x.start x.lines) x.closed y said in
            let p = g.progress in
            let a = going_able more fits in
            let on : Progress text list₀ x.next _ _ _ _ _ list =
            progress_said p step y q (omega (arith, p.short, near.from, near.joins))
            (omega (arith, p.short, near.fewer, near.within))
            (omega (arith, a.before.room_kinds)) (omega (arith, a.before.room_args)) a.lines_room
            a.bounds_room in (
              rw (en, ek, ea, el, eb, ef) on,
              ap length el ∙ simp length-set,
              ap length eb ∙ simp length-set,
              rw en (omega arith),
            )
        go (faulty code place) q (en, ek, ea, el, eb, ef) =
            let on : Progress text list₀ x.next _ kinds' args' lines bounds list' =
            progress_faulty g.progress step code place q kinds' args' list' ek ea ef in
            (rw (en, el, eb) on, ap length el, ap length eb, rw en (omega arith))
