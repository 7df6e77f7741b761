-- A rule for each way through `parse_row`.
use Prim.Native.Nat.{ℕ, ◌+◌, ◌-◌}
use Rattle.std.specs.Prelude.{Result, Ok, Err}
use mathlib.Core.Path.{◌≡◌, sym, ap, ◌∙◌}
use mathlib.Core.Bool.{true, false}
use mathlib.Core.List.{List, [], ◌∷◌, map, append-nil}
use native.Mathlib.Omega.{arith}
use borrow.Author.Tests.{eq-eqb, ne_eqb, le-leb, lt-leb, ltb-true, ltb-false}
use lib.Dec.{ltb}
use lib.ListN.{length, drop, drop_of_length-le}
use lib.Seq.{sets, drop-cons}
use Rattle.limits.specs.Limits.{levels}
use Rattle.tokens.specs.Symbol.{Symbol, mark}
use Rattle.tokens.specs.Held.{held_row}
use Rattle.tokens.proofs.Holding.{held_length}
use Rattle.grammar.specs.declared.ParseError.{ParseError}
use Rattle.grammar.specs.declared.ParseError.TheVariants.{NoRoom as TooShort, Misread as Misreads}
use Rattle.grammar.specs.declared.Misread.{Misread}
use Rattle.drafts.specs.Tree.{Says}
use Rattle.drafts.specs.Drafts.{Draft}
use Rattle.grammar.specs.Parser.{End, got, bad, Res, onward, bind, statement, at_end, entire, calls, row_answer}
use Rattle.grammar.specs.Parser.{read_row}
use Rattle.grammar.specs.Contract.{Ended, Parsed, Done, Fault, stopped_by, ungrammatical}
use Rattle.grammar.specs.Contract.{ParseOutcome, parse_outcome, wrote, parsed_in, parsed_as, row_outcome, ParsesRow}
use Rattle.grammar.specs.Contract.{part_done, part_of, part_wrote, Meets}
use Rattle.grammar.proofs.Room.{statement_fits}
use Rattle.faults.proofs.Apart.{fault_code}
use Rattle.grammar.proofs.Meets.{Went, went, place_is}

-- the outcome of a reading of n tokens
abbrev answered : ℕ → Res Says → ℕ → List ℕ → List ℕ → ParseOutcome Parsed
answered n x p l u = wrote (parsed_as (p + length x.out) (row_answer n x.end)) x.out p l u

-- a statement that stops
entire_stops : (n : ℕ) (x : Res Says) (r : Ended) (p : ℕ) (l u l₁ u₁ : List ℕ) → (r.code ≡ 0 → ⊥)
    → parse_outcome r l₁ u₁ ≡ part_wrote n x p l u
    → parse_outcome (Fault r.code r.next) l₁ u₁ ≡ answered n (bind x at_end) p l u
unfolding bind wrote
entire_stops n x r p l u l₁ u₁ z h = go x.end h
  where
    go : (t : End Says) → parse_outcome r l₁ u₁ ≡ wrote (part_of n (p + length x.out) t) x.out p l u
        → parse_outcome (Fault r.code r.next) l₁ u₁ ≡ answered n (onward x.out t at_end) p l u
    go (got e t) h = absurd (z (ap (λ (y : ParseOutcome Ended). y.reply.code) h))
    go (bad d t) h =
        ap (λ (y : ParseOutcome Ended). parse_outcome (Fault y.reply.code y.reply.next) y.kinds y.args) h

-- a statement that passes, and what is left
module _ (n : ℕ) (x : Res Says) (e : Says) (p q : ℕ) (l u l₁ u₁ : List ℕ) (up : q ≡ p + length x.out)
    (a : l₁ ≡ sets l p (map (λ (d : Draft). d.kind) x.out))
    (b : u₁ ≡ sets u p (map (λ (d : Draft). d.arg) x.out)) where
  entire_ends : x.end ≡ got e [] → parse_outcome (Done q) l₁ u₁ ≡ answered n (bind x at_end) p l u
  unfolding bind wrote
  entire_ends h = rw (h, append-nil, up, a, b)

  entire_more : (c : Symbol) (s : List Symbol) → x.end ≡ got e (c ∷ s)
      → parse_outcome (Fault 18 (n - length (c ∷ s))) l₁ u₁ ≡ answered n (bind x at_end) p l u
  unfolding bind wrote
  entire_more c s h = rw (h, append-nil, a, b)

module _ (ks us : List ℕ) (p : ℕ) (l u : List ℕ) where
  -- no room
  pub uneven : (length us ≡ length ks → ⊥) → ParsesRow ks us l u p (Err TooShort) l u
  unfolding row_outcome
  uneven n = rw (ne_eqb (length us) (length ks) n)

  pub no_kinds : length us ≡ length ks → true ≡ ltb (length l) (p + length ks)
      → ParsesRow ks us l u p (Err TooShort) l u
  unfolding row_outcome
  no_kinds e h =
      rw (
        eq-eqb (length us) (length ks) e,
        lt-leb (p + length ks) (length l) (ltb-true (length l) (p + length ks) (sym h)),
      )

  pub no_args : length us ≡ length ks → false ≡ ltb (length l) (p + length ks) → true ≡ ltb (length u) (p + length ks)
      → ParsesRow ks us l u p (Err TooShort) l u
  unfolding row_outcome
  no_args e f h =
      rw (
        eq-eqb (length us) (length ks) e,
        le-leb (p + length ks) (length l) (ltb-false (length l) (p + length ks) (sym f)),
        lt-leb (p + length ks) (length u) (ltb-true (length u) (p + length ks) (sym h)),
      )

  module _ (even : length us ≡ length ks) (f : false ≡ ltb (length l) (p + length ks))
      (g : false ≡ ltb (length u) (p + length ks)) where
    entry_by : (r : Result ℕ ParseError) {l₁ u₁ : List ℕ}
        → parse_outcome (parsed_in r) l₁ u₁ ≡ answered (length ks)
        (bind (statement (calls (held_row ks us)) levels (held_row ks us)) at_end) p l u → ParsesRow ks us l u p r l₁ u₁
    unfolding row_outcome read_row entire
    entry_by r h =
        rw (
          eq-eqb (length us) (length ks) even,
          le-leb (p + length ks) (length l) (ltb-false (length l) (p + length ks) (sym f)),
          le-leb (p + length ks) (length u) (ltb-false (length u) (p + length ks) (sym g)),
        )
        (h
        ∙ ap (λ (n : ℕ). answered n (bind (statement (calls (held_row ks us)) levels (held_row ks us)) at_end) p l u)
        (sym (held_length ks us even)))

    -- it stops
    pub entry_stopped : (m : Misread) {l₁ u₁ : List ℕ}
        → Meets ks us (statement (calls (held_row ks us)) levels) 0 p l u (stopped_by m) l₁ u₁
        → ParsesRow ks us l u p (Err (Misreads m)) l₁ u₁
    entry_stopped m {l₁} {u₁} h =
        entry_by (Err (Misreads m))
        (entire_stops (length ks) (statement (calls (held_row ks us)) levels (held_row ks us)) (stopped_by m) p l u
        l₁ u₁ (fault_code m.fault) h.same)

    module _ {j q : ℕ} {l₁ u₁ : List ℕ}
        (h : Meets ks us (statement (calls (held_row ks us)) levels) 0 p l u (part_done j q) l₁ u₁) where
      through : Went (held_row ks us) (statement (calls (held_row ks us)) levels (held_row ks us)) 0 p l u j q l₁ u₁
      through =
          let row = held_row ks us in
          let n = held_length ks us even in
          went row (statement (calls row) levels row) 0 p l u j q l₁ u₁ (omega arith)
          (statement_fits (calls row) levels row) (rw (← n) at h.same)

      -- at the end
      pub entry_done : j ≡ length ks → ParsesRow ks us l u p (Ok q) l₁ u₁
      entry_done z =
          let row = held_row ks us in
          let n = held_length ks us even in
          let w = through in
          let none = drop_of_length-le row {i = j} (omega arith) in
          entry_by (Ok q)
          (entire_ends (length ks) (statement (calls row) levels row) w.what p q l u l₁ u₁ w.up w.kinds
          w.args
          (w.ends ∙ ap (got w.what) none))

      -- before a token too many
      pub entry_more : (j ≡ length ks → ⊥) → ParsesRow ks us l u p (Err (Misreads (ungrammatical j))) l₁ u₁
      entry_more z =
          let row = held_row ks us in
          let n = held_length ks us even in
          let w = through in
          let i = w.inside in
          let cons = drop-cons row j (mark 0) (omega arith) in
          let at : length ks - length (drop j row) ≡ j = place_is ks us j even (omega arith) in
          entry_by (Err (Misreads (ungrammatical j)))
          (rw (← at, cons)
          (entire_more (length ks) (statement (calls row) levels row) w.what p q l u l₁ u₁ w.up w.kinds
          w.args _ _
          (w.ends ∙ ap (got w.what) cons)))

-- the same of buffers that are equal
pub moved : {x : Parsed} {y : ParseOutcome Parsed} {l u l₁ u₁ : List ℕ} → l₁ ≡ l → u₁ ≡ u
    → parse_outcome x l u ≡ y → parse_outcome x l₁ u₁ ≡ y
moved e f h = rw (e, f) h
