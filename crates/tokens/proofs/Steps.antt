-- One step of a row, and the turns of the loop that writes it.
use Prim.Native.Nat.{ℕ, suc, ◌+◌, ◌≤◌, ◌<◌}
use mathlib.Core.Path.{◌≡◌, refl, sym, ap, ap₂, subst, ◌∙◌}
use mathlib.Core.Bool.{true, false}
use mathlib.Core.List.{List}
use mathlib.Core.Logic.{◌⊎◌, ⊎_elim}
use native.Mathlib.Nat.{add-zero, zero-add}
use native.Mathlib.Numerals.{add-one}
use native.Mathlib.Omega.{arith}
use borrow.Author.Tests.{le-leb, lt-leb}
use lib.ListN.{length, set, take, drop, length-set}
use Rattle.std.specs.Prelude.{Option, Some, None, Result, Ok, Err}
use lib.Seq.{sets}
use Rattle.faults.specs.Codes.{code_of}
use Rattle.tokens.specs.declared.Token.{Token}
use Rattle.tokens.specs.declared.Token.TheVariants.{Name, Mark, Number, End, Bad}
use Rattle.tokens.specs.declared.Cut.{Cut}
use Rattle.tokens.specs.declared.step.Held.{Held}
use Rattle.tokens.specs.declared.step.Step.{Step}
use Rattle.tokens.specs.declared.RowError.{RowError}
use Rattle.tokens.specs.declared.RowError.TheVariants.{NoRoom, Bad as Refused}
use Rattle.tokens.specs.Symbol.{Symbol, mark, number, symbol_named}
use Rattle.tokens.specs.Held.{symbol_kind, arg_of}
use Rattle.tokens.specs.Token.{cut_at}
use Rattle.tokens.specs.Row.{Close, all_good, bad, bare, onto, ahead, row_of}
use Rattle.tokens.specs.Steps.{held_as, step_of, row_step_at}
use Rattle.tokens.specs.Contract.{end_in, close_end, row_end, kinds_of, args_of, row_roomy, WritesRow}
use Rattle.tokens.proofs.Sound.{Inside, Sound, cut_sound}
use Rattle.tokens.proofs.Rows.{rest, rest_next}

-- ---- a step from a cut
module _ (s : List ℕ) (from : ℕ) (c : Cut) (read : c ≡ cut_at s from) (t : Token) (is : c.token ≡ t) where
  -- the cut's token is sound
  pub step_sound : Sound s from t c.next
  step_sound = subst (λ (x : Token). Sound s from x c.next) is
      (subst (λ (x : Cut). Sound s from x.token x.next) (sym read) (cut_sound s from))

-- ---- a row from a step

-- a good step: its token is the first of the row from here
pub record Taken (s : List ℕ) (from : ℕ) (h : Held) (next : ℕ) : Type 0 where
  pub symbol : Symbol
  pub at : ℕ
  pub inside : Inside s from next
  pub held : held_as symbol ≡ h
  pub row : rest s from ≡ onto symbol at (rest s next)

-- a token, the end, and a bad token behind n good ones
abbrev Follows : List ℕ → ℕ → ℕ → Result (Option Step) RowError → Type 0
Follows s from n (Ok (Some step)) = Taken s from step.held step.next
Follows s from n (Ok None) = rest s from ≡ bare all_good
Follows s from n (Err NoRoom) = ⊥
Follows s from n (Err (Refused fault count at)) = (rest s from ≡ bare (bad (code_of fault) at)) × (count ≡ n)

-- by the token of the cut
follows : (s : List ℕ) (from n : ℕ) (t : Token) (at next : ℕ) → Sound s from t next
    → rest s from ≡ ahead s t at (rest s next)
    → Follows s from n (step_of s t at next n)
follows s from n (Name p k) at next x e =
    record { symbol = symbol_named (take k (drop p s)); at = at; inside = x.0; held = refl; row = e }
follows s from n (Mark b) at next x e = record { symbol = mark b; at = at; inside = x.0; held = refl; row = e }
follows s from n (Number v) at next x e = record { symbol = number v; at = at; inside = x.0; held = refl; row = e }
follows s from n End at next x e = e
follows s from n (Bad fault) at next x e = (e, refl)

-- what a step says of the row from here
says : (s : List ℕ) (from n : ℕ) (r : Result (Option Step) RowError) → r ≡ row_step_at s from n → Follows s from n r
says s from n r e =
    let c = cut_at s from in
    subst (Follows s from n) (sym e) (follows s from n c.token c.at c.next (cut_sound s from) (rest_next s from))

-- ---- the loop: n tokens are written, and the row from here is left
pub record Turn (s ks₀ us₀ ks us : List ℕ) (from n : ℕ) : Type 0 where
  pub room : (length s ≤ length ks₀) × (length s ≤ length us₀)
  pub long : (length ks ≡ length ks₀) × (length us ≡ length us₀)
  pub count : n ≤ from
  pub answer : close_end (rest s from).close (n + length (rest s from).tokens) ≡ row_end (row_of s)
  pub kinds : sets ks n (kinds_of (rest s from)) ≡ sets ks₀ 0 (kinds_of (row_of s))
  pub args : sets us n (args_of (rest s from)) ≡ sets us₀ 0 (args_of (row_of s))

-- without room nothing is written
pub no_room : (s ks us : List ℕ) → ◌⊎◌ (length ks < length s) ((length s ≤ length ks) × (length us < length s))
    → WritesRow s ks us (Err NoRoom) ks us
no_room s ks us short = written (⊎_elim kinds_short args_short short)
  where
    kinds_short : length ks < length s → row_roomy s ks us ≡ false
    kinds_short h = rw (lt-leb (length s) (length ks) h)

    args_short : (length s ≤ length ks) × (length us < length s) → row_roomy s ks us ≡ false
    args_short h = rw (le-leb (length s) (length ks) h.0, lt-leb (length s) (length us) h.1)

    written : row_roomy s ks us ≡ false → WritesRow s ks us (Err NoRoom) ks us
    written e = record { answer = rw e; kinds = rw e; args = rw e }

-- at the start the whole row is left
pub turn_first : (s ks us : List ℕ) → length s ≤ length ks → length s ≤ length us → Turn s ks us ks us 0 0
unfolding row_of
turn_first s ks us h k =
    record {
      room = (h, k);
      long = (refl, refl);
      count = omega arith;
      answer = ap (close_end (rest s 0).close) (zero-add _);
      kinds = refl;
      args = refl;
    }

module _ (s ks₀ us₀ ks us : List ℕ) (from n : ℕ) (t : Turn s ks₀ us₀ ks us from n) where
  -- there is room
  full : row_roomy s ks₀ us₀ ≡ true
  full = rw (le-leb (length s) (length ks₀) t.room.0, le-leb (length s) (length us₀) t.room.1)

  -- no token is left: all of the row is written
  closing : (c : Close) (r : Result ℕ RowError) → end_in r ≡ close_end c n → rest s from ≡ bare c
      → WritesRow s ks₀ us₀ r ks us
  closing c r f e =
      let all : close_end c (n + 0) ≡ row_end (row_of s) = rw e at t.answer in
      let ks_all : ks ≡ sets ks₀ 0 (kinds_of (row_of s)) = rw e at t.kinds in
      let us_all : us ≡ sets us₀ 0 (args_of (row_of s)) = rw e at t.args in
      record {
        answer = rw full (f ∙ ap (close_end c) (sym (add-zero n)) ∙ all);
        kinds = rw full ks_all;
        args = rw full us_all;
      }

  -- at the end of the text
  pub turn_over : Ok None ≡ row_step_at s from n → WritesRow s ks₀ us₀ (Ok n) ks us
  turn_over e = closing all_good (Ok n) refl (says s from n (Ok None) e)

  -- at a bad token
  pub turn_refused : (r : RowError) → Err r ≡ row_step_at s from n → WritesRow s ks₀ us₀ (Err r) ks us
  turn_refused NoRoom e = absurd (says s from n (Err NoRoom) e)
  turn_refused (Refused fault count at) e =
      let k = says s from n (Err (Refused fault count at)) e in
      closing (bad (code_of fault) at) (Err (Refused fault count at)) (rw k.1 refl) k.0

  -- one token more
  module _ (step : Step) (is : Ok (Some step) ≡ row_step_at s from n) where
    -- it lies inside the text
    pub turn_inside : Inside s from step.next
    turn_inside = (says s from n (Ok (Some step)) is).inside

    -- and is written at its place
    pub turn_next : Turn s ks₀ us₀ (set ks n step.held.kind) (set us n step.held.arg) step.next (n + 1)
    turn_next =
        let k = says s from n (Ok (Some step)) is in
        let left = rest s step.next in
        let count : n + 1 + length left.tokens ≡ n + suc (length left.tokens) = omega arith in
        let kind : step.held.kind ≡ symbol_kind k.symbol = ap (λ (x : Held). x.kind) (sym k.held) in
        let arg : step.held.arg ≡ arg_of k.symbol = ap (λ (x : Held). x.arg) (sym k.held) in
        record {
          room = t.room;
          long = (length-set ks n step.held.kind ∙ t.long.0, length-set us n step.held.arg ∙ t.long.1);
          count = omega (arith, k.inside);
          answer = ap (close_end left.close) count ∙ (rw k.row at t.answer);
          kinds = ap₂ (λ (v i : ℕ). sets (set ks n v) i (kinds_of left)) kind (add-one n) ∙ (rw k.row at t.kinds);
          args = ap₂ (λ (v i : ℕ). sets (set us n v) i (args_of left)) arg (add-one n) ∙ (rw k.row at t.args);
        }
