-- A rule for each way through the functions of a block's header: names, its inputs, and all of it.
use Prim.Native.Nat.{ℕ, suc, ◌+◌, ◌-◌, ◌≤◌, ◌<◌}
use Rattle.std.specs.Prelude.{Result, Ok, Err}
use mathlib.Core.Path.{◌≡◌, sym, ◌∙◌}
use mathlib.Core.List.{List, [], ◌∷◌}
use native.Mathlib.Omega.{arith}
use lib.ListN.{length, get_or, drop}
use Rattle.laws.proofs.Tests.{for_suc}
use Rattle.tokens.specs.Symbol.{Symbol}
use Rattle.tokens.specs.Kinds.{name_kind}
use Rattle.tokens.specs.Held.{held_row}
use Rattle.tokens.proofs.Holding.{held_length}
use Rattle.drafts.specs.Tree.{Says, header}
use Rattle.drafts.specs.Kinds.{kind_output, kind_input}
use Rattle.grammar.specs.Look.{rest}
use Rattle.grammar.specs.Parser.{Res, give, bind, need, on_more, many_names, with_inputs, block_named, headed, calls}
use Rattle.grammar.specs.declared.Misread.{Misread}
use Rattle.grammar.specs.Contract.{Ended, ended_in, stopped_by, Puts, Needs}
use Rattle.grammar.specs.Contract.{Ready, part_done, part_stopped, Meets, ParsesNames}
use Rattle.grammar.proofs.Room.{names_fits}
use Rattle.grammar.proofs.Seen.{token_at_holds, stands, is_name, no_name}
use Rattle.grammar.proofs.Meets.{meets_by, meets_rest, meets_give, meets_stop, meets_tell, meets_bad, meets_bind}
use Rattle.grammar.proofs.Meets.{meets_map, meets_mark, meets_else, meets_need, meets_shut}
use Rattle.grammar.proofs.Ways.{After, after_fits}
use Rattle.grammar.proofs.Statements.{puts_lengths, comma_inside, name_inside, name_within}

-- ---- names, each with a draft of the kind n

module _ {ks us : List ℕ} {n i p : ℕ} {l u : List ℕ} (w : Ready ks us i p l u) where
  -- no name
  none_named : {m : Misread} → Needs ks i name_kind (Err m) → ParsesNames ks us n i p l u (stopped_by m) l u
  unfolding many_names
  none_named other =
      rw other.1
      (record {
        meets = for_suc (λ f. Meets ks us (many_names n f) i p l u (part_stopped 18 i) l u) (length ks - i) λ f le.
            meets_by (many_names n (suc f))
            (rw (token_at_holds ks us i w.even) (no_name (get_or ks i 0) (get_or us i 0) _ _ other.0))
            (meets_stop w.even w.within 18);
      })

  module _ {e : ℕ} (named : Needs ks i name_kind (Ok e)) where
    -- its draft
    module _ {p₁ : ℕ} {l₁ u₁ : List ℕ} (x : Puts n (get_or us i 0) p l u p₁ l₁ u₁) where
      one_named : {r : Ended} {l₂ u₂ : List ℕ}
          → ((f : ℕ) → length ks - i ≤ f → Meets ks us (on_more (many_names n f) (get_or us i 0))
          e p₁ l₁ u₁ r l₂ u₂)
          → ParsesNames ks us n i p l u r l₂ u₂
      unfolding many_names
      one_named {r} {l₂} {u₂} g =
          record {
            meets = for_suc (λ f. Meets ks us (many_names n f) i p l u r l₂ u₂) (length ks - i) λ f le.
                meets_by (many_names n (suc f))
                (rw (token_at_holds ks us i w.even) (is_name (get_or ks i 0) (get_or us i 0) _ _ named.0))
                (meets_tell x (meets_rest (rw named.1 at (g f le))));
          }

      module _ {c : ℕ} (ec : c ≡ get_or ks e 0) where
        -- the last
        last_named : (c ≡ 44 → ⊥) → ParsesNames ks us n i p l u (part_done e p₁) l₁ u₁
        last_named other =
            let a = name_within w named in
            let k = get_or us i 0 in
            one_named λ f le. meets_else (λ s. bind (many_names n f (rest s)) λ ks t. give (k ∷ ks) t) 44 w.even
            (omega arith) (λ z. other (ec ∙ z))
            (meets_give w.even a (k ∷ []))

        -- or more behind a comma
        more_named : {r : Ended} {l₂ u₂ : List ℕ} → c ≡ 44 → ParsesNames ks us n (e + 1) p₁ l₁ u₁ r l₂ u₂
            → ParsesNames ks us n i p l u r l₂ u₂
        more_named z g =
            let a = comma_inside ks e ec z in
            let b = named.1 in
            let k = get_or us i 0 in
            one_named λ f le. meets_mark (give (k ∷ [])) 44 w.even (omega arith) (sym ec ∙ z)
            (meets_rest (meets_map (λ ks. k ∷ ks) (g.meets f (omega arith))))

-- names on their way: from token j and draft q on, what these give, all give
pub record GoingNames (ks us : List ℕ) (n i p : ℕ) (l u : List ℕ) (j q : ℕ) (l₁ u₁ : List ℕ) : Type 0 where
  pub ready : Ready ks us j q l₁ u₁
  pub all : {r : Ended} {l₂ u₂ : List ℕ} → ParsesNames ks us n j q l₁ u₁ r l₂ u₂ → ParsesNames ks us n i p l u r l₂ u₂

-- at first
pub names_first : {ks us : List ℕ} {i p : ℕ} {l u : List ℕ} (n : ℕ) → Ready ks us i p l u
    → GoingNames ks us n i p l u i p l u
names_first n w = record { ready = w; all = λ g. g }

module _ {ks us : List ℕ} {n i p : ℕ} {l u : List ℕ} {j q : ℕ} {l₁ u₁ : List ℕ}
    (z : GoingNames ks us n i p l u j q l₁ u₁) where
  -- no name
  pub names_none : {m : Misread} → Needs ks j name_kind (Err m) → ParsesNames ks us n i p l u (stopped_by m) l₁ u₁
  names_none other = z.all (none_named z.ready other)

  module _ {e : ℕ} (named : Needs ks j name_kind (Ok e)) where
    pub name_there : j < length ks
    name_there = name_inside z.ready named

    -- there is room for its draft
    pub name_room : (q < length l₁) × (q < length u₁)
    name_room = let a = name_there in (omega (arith, z.ready.room_kinds), omega (arith, z.ready.room_args))

    module _ {q₁ : ℕ} {l₂ u₂ : List ℕ} (x : Puts n (get_or us j 0) q l₁ u₁ q₁ l₂ u₂) {c : ℕ}
        (ec : c ≡ get_or ks e 0) where
      -- the last
      pub names_last : (c ≡ 44 → ⊥) → ParsesNames ks us n i p l u (part_done e q₁) l₂ u₂
      names_last other = z.all (last_named z.ready named x ec other)

      -- the next stands behind a comma
      pub names_again : c ≡ 44 → GoingNames ks us n i p l u (e + 1) q₁ l₂ u₂
      names_again v =
          let a = comma_inside ks e ec v in
          let b = puts_lengths x in
          let d = x.place in
          let f = named.1 in
          record {
            ready = record {
              even = z.ready.even;
              within = omega arith;
              room_kinds = omega (arith, z.ready.room_kinds);
              room_args = omega (arith, z.ready.room_args);
            };
            all = λ g. z.all (more_named z.ready named x ec v g);
          }

-- ---- names in a header, with calls enough for the row

module _ {ks us : List ℕ} {n i p : ℕ} {l u : List ℕ} (w : Ready ks us i p l u) where
  -- what they give
  names_meet : {r : Ended} {l₁ u₁ : List ℕ} → ParsesNames ks us n i p l u r l₁ u₁
      → Meets ks us (many_names n (calls (held_row ks us))) i p l u r l₁ u₁
  names_meet h = let a = held_length ks us w.even in h.meets (calls (held_row ks us)) (omega arith)

  module _ {j q : ℕ} {l₁ u₁ : List ℕ} (h : ParsesNames ks us n i p l u (part_done j q) l₁ u₁) where
    -- where they end
    names_after : After (length ks) i p l u j q l₁ u₁
    names_after =
        let row = held_row ks us in
        after_fits w (names_fits n (calls row) (drop i row)) (names_meet h)

    -- what follows them goes on from there
    names_then : {A : Type 0} {r : Ended} {l₂ u₂ : List ℕ} (k : List ℕ → List Symbol → Res A)
        → ((os : List ℕ) → Meets ks us (k os) j q l₁ u₁ r l₂ u₂)
        → Meets ks us (λ s. bind (many_names n (calls (held_row ks us)) s) k) i p l u r l₂ u₂
    names_then k g =
        let row = held_row ks us in
        meets_bind k (names_fits n (calls row) (drop i row)) w.even w.within (names_meet h) λ os _. g os

-- ---- the inputs

module _ {ks us : List ℕ} {i p : ℕ} {l u : List ℕ} (w : Ready ks us i p l u) where
  -- what follows them
  abbrev close_then : List ℕ → List ℕ → List Symbol → Res Says
  close_then os is t = need 41 t (give (header os is))

  pub inputs_stopped : {r : Ended} {l₁ u₁ : List ℕ} → (r.code ≡ 0 → ⊥) → ParsesNames ks us kind_input i p l u r l₁ u₁
      → (os : List ℕ) → Meets ks us (with_inputs (calls (held_row ks us)) os) i p l u r l₁ u₁
  inputs_stopped e h os = meets_bad (close_then os) e (names_meet w h)

  module _ {j q : ℕ} {l₁ u₁ : List ℕ} (h : ParsesNames ks us kind_input i p l u (part_done j q) l₁ u₁) where
    -- no closing parenthesis
    inputs_shut : {m : Misread} → Needs ks j 41 (Err m) → (os : List ℕ)
        → Meets ks us (with_inputs (calls (held_row ks us)) os) i p l u (stopped_by m) l₁ u₁
    inputs_shut other os =
        let a = names_after w h in
        names_then w h (close_then os) λ is. meets_shut (give (header os is)) 41 w.even a.inside (omega arith) other

    inputs_done : {e : ℕ} → Needs ks j 41 (Ok e) → (os : List ℕ)
        → Meets ks us (with_inputs (calls (held_row ks us)) os) i p l u (part_done e q) l₁ u₁
    inputs_done there os =
        let a = stands ks j (λ z. let y = there.0 in omega arith) in
        let b = there.1 in
        names_then w h (close_then os) λ is.
        meets_need 41 w.even (omega arith) there (meets_give w.even (omega arith) (header os is))

    pub inputs_end : (r : Result ℕ Misread) → Needs ks j 41 r → (os : List ℕ)
        → Meets ks us (with_inputs (calls (held_row ks us)) os) i p l u (ended_in r q) l₁ u₁
    inputs_end (Ok e) h = inputs_done h
    inputs_end (Err m) h = inputs_shut h

-- ---- all of a header

module _ {ks us : List ℕ} {i p : ℕ} {l u : List ℕ} (w : Ready ks us i p l u) where
  -- what follows the outputs
  abbrev block_then : List ℕ → List Symbol → Res Says
  block_then os t = need 61 t (block_named (calls (held_row ks us)) os)

  pub outputs_stopped : {r : Ended} {l₁ u₁ : List ℕ} → (r.code ≡ 0 → ⊥)
      → ParsesNames ks us kind_output i p l u r l₁ u₁
      → Meets ks us (headed (calls (held_row ks us))) i p l u r l₁ u₁
  unfolding headed
  outputs_stopped e h = meets_bad block_then e (names_meet w h)

  module _ {j q : ℕ} {l₁ u₁ : List ℕ} (h : ParsesNames ks us kind_output i p l u (part_done j q) l₁ u₁) where
    behind_outputs : {r : Ended} {l₂ u₂ : List ℕ} → ((os : List ℕ) → Meets ks us (block_then os) j q l₁ u₁ r l₂ u₂)
        → Meets ks us (headed (calls (held_row ks us))) i p l u r l₂ u₂
    unfolding headed
    behind_outputs g = names_then w h block_then g

    -- no =
    pub header_shut : {m : Misread} → Needs ks j 61 (Err m)
        → Meets ks us (headed (calls (held_row ks us))) i p l u (stopped_by m) l₁ u₁
    header_shut other =
        let a = names_after w h in
        behind_outputs λ os. meets_shut (block_named (calls (held_row ks us)) os) 61 w.even a.inside (omega arith) other

    module _ {n : ℕ} (equals : Needs ks j 61 (Ok n)) where
      header_equals : n ≤ length ks
      header_equals =
          let a = stands ks j (λ z. let y = equals.0 in omega arith) in let b = equals.1 in omega arith

      behind_equals : {r : Ended} {l₂ u₂ : List ℕ}
          → ((os : List ℕ) → Meets ks us (block_named (calls (held_row ks us)) os) n q l₁ u₁ r l₂ u₂)
          → Meets ks us (headed (calls (held_row ks us))) i p l u r l₂ u₂
      behind_equals g = behind_outputs λ os. meets_need 61 w.even (omega arith) equals (g os)

      -- no name of the block
      pub header_unnamed : {m : Misread} → Needs ks n name_kind (Err m)
          → Meets ks us (headed (calls (held_row ks us))) i p l u (stopped_by m) l₁ u₁
      header_unnamed other =
          rw other.1
          (behind_equals λ os. meets_by (block_named (calls (held_row ks us)) os)
          (rw (token_at_holds ks us n w.even) (no_name (get_or ks n 0) (get_or us n 0) _ _ other.0))
          (meets_stop w.even header_equals 18))

      module _ {o : ℕ} (named : Needs ks n name_kind (Ok o)) where
        header_named : o ≤ length ks
        header_named =
            let a = stands ks n (λ z. let y = named.0 in omega arith) in let b = named.1 in omega arith

        behind_name : {r : Ended} {l₂ u₂ : List ℕ}
            → ((os : List ℕ) → Meets ks us (λ s. need 40 s (with_inputs (calls (held_row ks us)) os)) o q l₁ u₁ r l₂ u₂)
            → Meets ks us (headed (calls (held_row ks us))) i p l u r l₂ u₂
        behind_name g =
            behind_equals λ os. meets_by (block_named (calls (held_row ks us)) os)
            (rw (token_at_holds ks us n w.even) (is_name (get_or ks n 0) (get_or us n 0) _ _ named.0))
            (meets_rest (rw named.1 at (g os)))

        -- no opening parenthesis
        pub header_closed : {m : Misread} → Needs ks o 40 (Err m)
            → Meets ks us (headed (calls (held_row ks us))) i p l u (stopped_by m) l₁ u₁
        header_closed other =
            behind_name λ os. meets_shut (with_inputs (calls (held_row ks us)) os) 40 w.even header_named (omega arith)
            other

        module _ {s : ℕ} (opens : Needs ks o 40 (Ok s)) where
          -- the inputs can be read
          pub inputs_enter : Ready ks us s q l₁ u₁
          inputs_enter =
              let a = names_after w h in
              let b = stands ks o (λ z. let y = opens.0 in omega arith) in
              let c = equals.1 in
              let d = named.1 in
              let e = opens.1 in
              record {
                even = w.even;
                within = omega arith;
                room_kinds = omega (arith, w.room_kinds);
                room_args = omega (arith, w.room_args);
              }

          pub header_done : {r : Ended} {l₂ u₂ : List ℕ}
              → ((os : List ℕ) → Meets ks us (with_inputs (calls (held_row ks us)) os) s q l₁ u₁ r l₂ u₂)
              → Meets ks us (headed (calls (held_row ks us))) i p l u r l₂ u₂
          header_done g = behind_name λ os. meets_need 40 w.even (omega arith) opens (g os)
