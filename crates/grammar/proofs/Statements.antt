-- A rule for each way through the functions of statements: constants, an assignment, a state, and all forms by their
-- first tokens.
use Prim.Native.Nat.{ℕ, suc, ◌+◌, ◌-◌, ◌≤◌, ◌<◌}
use Rattle.std.specs.Prelude.{Ok, Err}
use mathlib.Core.Path.{◌≡◌, refl, sym, ap, ◌∙◌}
use mathlib.Core.List.{List, [], ◌∷◌}
use native.Mathlib.Omega.{arith}
use lib.Ieee.{binary64, to_bits}
use lib.ListN.{length, get_or, length-set, drop, length-drop}
use Rattle.laws.proofs.Tests.{for_suc}
use Rattle.limits.specs.Limits.{levels}
use Rattle.tokens.specs.Symbol.{CONSTANTS, INTGRL, PROCED, ENDPRO, Symbol}
use Rattle.tokens.specs.Kinds.{name_kind, word_kind}
use Rattle.tokens.specs.Held.{held_row}
use Rattle.tokens.proofs.Holding.{held_length}
use Rattle.drafts.specs.Tree.{Tree, Constant, constant_of, Initial, Says, constants, assignment, state, ending}
use Rattle.drafts.specs.Kinds.{kind_constant, kind_initial, kind_number, kind_store, kind_rate, kind_ending}
use Rattle.drafts.specs.Drafts.{draft, constant_drafts, initial_draft}
use Rattle.grammar.specs.Look.{rest}
use Rattle.grammar.specs.Grammar.{expr}
use Rattle.grammar.specs.Parser.{Res, give, tell, bind, need, parse, reads}
use Rattle.grammar.specs.Parser.{by_signed_number, on_more, valued, many, initially, assigned, rated, begun_state}
use Rattle.grammar.specs.Parser.{integrated, equated, headed, statement, calls}
use Rattle.grammar.specs.declared.Misread.{Misread}
use Rattle.grammar.specs.Contract.{Ended, stopped_by, Needs, Found, Missing}
use Rattle.grammar.specs.Contract.{Puts, Ready, Within, part_done, part_stopped, Meets, Parses, ParsesMany, number_at}
use Rattle.grammar.specs.Contract.{initial_at}
use Rattle.grammar.proofs.Clauses.{to_reads}
use Rattle.grammar.proofs.Seen.{token_at_holds, stands, is_name, no_name, is_integral, no_integral, start_name}
use Rattle.grammar.proofs.Seen.{start_words, start_header, start_ending, start_none}
use Rattle.grammar.proofs.Meets.{meets_by, meets_rest, meets_give, meets_stop, meets_tell, meets_map, meets_mark}
use Rattle.grammar.proofs.Meets.{meets_else, meets_need, meets_shut}
use Rattle.grammar.proofs.Ways.{after, stops, goes_on}
use Rattle.grammar.proofs.Values.{ValuedAt, number_found, initial_found, number_stops, initial_stops}
use Rattle.grammar.proofs.Values.{value_then}

-- two drafts
two_drafts : {A : Type 0} {ks us : List ℕ} {i p p₁ p₂ : ℕ} {l u : List ℕ} {r : Ended} {l₁ u₁ l₂ u₂ l₃ u₃ : List ℕ}
    {x : List Symbol → Res A} {k a k' a' : ℕ}
    → Puts k a p l u p₁ l₁ u₁ → Puts k' a' p₁ l₁ u₁ p₂ l₂ u₂ → Meets ks us x i p₂ l₂ u₂ r l₃ u₃
    → Meets ks us (λ s. tell (draft k a ∷ draft k' a' ∷ []) (x s)) i p l u r l₃ u₃
two_drafts v w h = meets_tell v (meets_tell w h)

-- a draft whose kind and argument are these
puts_as : {k a k' a' p : ℕ} {l u : List ℕ} {p₁ : ℕ} {l₁ u₁ : List ℕ} → k ≡ k' → a ≡ a' → Puts k a p l u p₁ l₁ u₁
    → Puts k' a' p l u p₁ l₁ u₁
puts_as e f w = record { place = w.place; kinds = rw (← e) w.kinds; args = rw (← f) w.args }

-- a draft keeps the lengths
pub puts_lengths : {k a p : ℕ} {l u : List ℕ} {p₁ : ℕ} {l₁ u₁ : List ℕ} → Puts k a p l u p₁ l₁ u₁
    → (length l₁ ≡ length l) × (length u₁ ≡ length u)
puts_lengths w = (ap length w.kinds ∙ simp length-set, ap length w.args ∙ simp length-set)

-- the room for two drafts, and behind them
pub record TwoOn (ks us : List ℕ) (p j : ℕ) (l u : List ℕ) : Type 0 where
  pub first : (p < length l) × (p < length u)
  pub second : {k a p₁ : ℕ} {l₁ u₁ : List ℕ} → Puts k a p l u p₁ l₁ u₁ → (p₁ < length l₁) × (p₁ < length u₁)
  pub ready : {k a p₁ k' a' p₂ : ℕ} {l₁ u₁ l₂ u₂ : List ℕ} → Puts k a p l u p₁ l₁ u₁ → Puts k' a' p₁ l₁ u₁ p₂ l₂ u₂
      → j < length ks → Ready ks us (j + 1) p₂ l₂ u₂

two_on : {ks us : List ℕ} {i p : ℕ} {l u : List ℕ} → Ready ks us i p l u → (j : ℕ) → i + 2 ≤ j → j ≤ length ks
    → TwoOn ks us p j l u
two_on w j on inside =
    let a = w.room_kinds in
    let b = w.room_args in
    record {
      first = (omega arith, omega arith);
      second = λ v. let x = puts_lengths v in let z = v.place in (omega arith, omega arith);
      ready = λ v v' lt.
          let x = puts_lengths v in
          let y = puts_lengths v' in
          let z = v.place in
          let z' = v'.place in
          record { even = w.even; within = omega arith; room_kinds = omega arith; room_args = omega arith };
    }

-- a comma stands before the end
pub comma_inside : (ks : List ℕ) (j : ℕ) {c : ℕ} → c ≡ get_or ks j 0 → c ≡ 44 → j < length ks
comma_inside ks j {c} e z = stands ks j λ y. let v : c ≡ 0 = e ∙ y in omega arith

-- ---- constants

module _ {ks us : List ℕ} {i p : ℕ} {l u : List ℕ} (w : Ready ks us i p l u) where
  -- no name
  pub const_none : {m : Misread} → Needs ks i name_kind (Err m) → ParsesMany ks us i p l u (stopped_by m) l u
  unfolding many
  const_none n =
      rw n.1
      (record {
        meets = for_suc (λ f. Meets ks us (many f) i p l u (part_stopped 18 i) l u) (length ks - i) λ f le.
            meets_by (many (suc f))
            (rw (token_at_holds ks us i w.even) (no_name (get_or ks i 0) (get_or us i 0) _ _ n.0))
            (meets_stop w.even w.within 18);
      })

  module _ {e : ℕ} (named : Needs ks i name_kind (Ok e)) where
    pub name_inside : i < length ks
    name_inside = stands ks i λ z. let y = named.0 in omega arith

    pub name_within : e ≤ length ks
    name_within = let a = name_inside in let b = named.1 in omega arith

    -- behind a name
    const_named : {r : Ended} {l₁ u₁ : List ℕ}
        → ((f : ℕ) → length ks - i ≤ f → Meets ks us (λ s. need 61 s (valued (many f) (get_or us i 0)))
        e p l u r l₁ u₁)
        → ParsesMany ks us i p l u r l₁ u₁
    unfolding many
    const_named {r} {l₁} {u₁} g =
        record {
          meets = for_suc (λ f. Meets ks us (many f) i p l u r l₁ u₁) (length ks - i) λ f le.
              meets_by (many (suc f))
              (rw (token_at_holds ks us i w.even) (is_name (get_or ks i 0) (get_or us i 0) _ _ named.0))
              (meets_rest (rw named.1 at (g f le)));
        }

    -- no =
    pub const_shut : {m : Misread} → Needs ks e 61 (Err m) → ParsesMany ks us i p l u (stopped_by m) l u
    const_shut n =
        const_named λ f le. meets_shut (valued (many f) (get_or us i 0)) 61 w.even name_within (omega arith) n

    module _ {s : ℕ} (equals : Needs ks e 61 (Ok s)) where
      equals_inside : e < length ks
      equals_inside = stands ks e λ z. let y = equals.0 in omega arith

      pub const_within : Within ks us s
      const_within =
          let a = equals_inside in let b = equals.1 in record { even = w.even; within = omega arith }

      -- behind =
      const_equals : {r : Ended} {l₁ u₁ : List ℕ}
          → ((f : ℕ) → length ks - i ≤ f → Meets ks us (valued (many f) (get_or us i 0)) s p l u r l₁ u₁)
          → ParsesMany ks us i p l u r l₁ u₁
      const_equals g = const_named λ f le. meets_need 61 w.even (omega arith) equals (g f le)

      -- no number
      pub const_missing : {c j : ℕ} → Missing c j ≡ number_at ks us s
          → ParsesMany ks us i p l u (part_stopped c j) l u
      const_missing h = const_equals λ f le. number_stops const_within _ h

      module _ {k a j : ℕ} (h : Found k a j ≡ number_at ks us s) where
        value : ValuedAt (λ x. draft kind_number (to_bits binary64 x)) by_signed_number ks us s k a j
        value = number_found const_within h

        const_on : TwoOn ks us p j l u
        const_on =
            let v = value in
            two_on w j (let x = named.1 in let y = v.on in let z = equals.1 in omega arith) v.inside

        pub const_room : (p < length l) × (p < length u)
        const_room = const_on.first

        pub const_second : {b p₁ : ℕ} {l₁ u₁ : List ℕ} → Puts kind_constant b p l u p₁ l₁ u₁
            → (p₁ < length l₁) × (p₁ < length u₁)
        const_second x = const_on.second x

        module _ {c : ℕ} (ec : c ≡ get_or ks j 0) {p₁ p₂ : ℕ} {l₁ u₁ l₂ u₂ : List ℕ}
            (x : Puts kind_constant (get_or us i 0) p l u p₁ l₁ u₁) (x' : Puts k a p₁ l₁ u₁ p₂ l₂ u₂) where
          -- its two drafts
          const_valued : {r : Ended} {l₃ u₃ : List ℕ}
              → ((f : ℕ) (z : Constant) → length ks - i ≤ f
              → Meets ks us (on_more (many f) z) j p₂ l₂ u₂ r l₃ u₃)
              → ParsesMany ks us i p l u r l₃ u₃
          const_valued g =
              let v = value in
              let n = get_or us i 0 in
              const_equals λ f le. value_then
              (λ z t. tell (constant_drafts (constant_of n z)) (on_more (many f) (constant_of n z) t)) v
              (two_drafts x (puts_as v.kind v.arg x') (g f (constant_of n v.what) le))

          -- the last
          pub const_last : (c ≡ 44 → ⊥) → ParsesMany ks us i p l u (part_done j p₂) l₂ u₂
          const_last n =
              const_valued λ f z le. meets_else (λ s. bind (many f (rest s)) λ cs t. give (z ∷ cs) t) 44 w.even
              (omega arith) (λ q. n (ec ∙ q))
              (meets_give w.even value.inside (z ∷ []))

          -- or more behind a comma
          pub const_less : c ≡ 44 → length ks - (j + 1) < length ks - i
          const_less q =
              let d = comma_inside ks j ec q in
              let a = value.on in
              let b = named.1 in
              let e = equals.1 in
              omega arith

          pub const_ready : c ≡ 44 → Ready ks us (j + 1) p₂ l₂ u₂
          const_ready q = const_on.ready x x' (comma_inside ks j ec q)

          pub const_more : {r : Ended} {l₃ u₃ : List ℕ} → c ≡ 44 → ParsesMany ks us (j + 1) p₂ l₂ u₂ r l₃ u₃
              → ParsesMany ks us i p l u r l₃ u₃
          const_more q g =
              let v = value in
              const_valued λ f z le. meets_mark (give (z ∷ [])) 44 w.even (omega arith) (sym ec ∙ q)
              (meets_rest (meets_map (λ cs. z ∷ cs) (g.meets f (let b = v.on in let d = v.inside in omega arith))))

-- constants on their way: from token j and draft q on, what these give, all give
pub record GoingMany (ks us : List ℕ) (i p : ℕ) (l u : List ℕ) (j q : ℕ) (l₁ u₁ : List ℕ) : Type 0 where
  pub ready : Ready ks us j q l₁ u₁
  pub all : {r : Ended} {l₂ u₂ : List ℕ} → ParsesMany ks us j q l₁ u₁ r l₂ u₂ → ParsesMany ks us i p l u r l₂ u₂

-- at first
pub many_first : {ks us : List ℕ} {i p : ℕ} {l u : List ℕ} → Ready ks us i p l u → GoingMany ks us i p l u i p l u
many_first w = record { ready = w; all = λ g. g }

-- ---- an assignment

-- with calls enough for the row
expr_at : (ks us : List ℕ) (i d : ℕ) → length us ≡ length ks
    → parse (calls (held_row ks us)) expr d (drop i (held_row ks us)) ≡ reads expr d (drop i (held_row ks us))
expr_at ks us i d even =
    let a = length-drop i (held_row ks us) in
    to_reads (calls (held_row ks us)) expr d (drop i (held_row ks us)) tt (omega arith)

-- a place with room for one draft more
pub ready_less : {ks us : List ℕ} {i : ℕ} {l u : List ℕ} (p : ℕ) → Ready ks us i (p + 1) l u → Ready ks us i p l u
ready_less p w =
    record {
      even = w.even;
      within = w.within;
      room_kinds = omega (arith, w.room_kinds);
      room_args = omega (arith, w.room_args);
    }

-- what follows the expression
abbrev store_then : ℕ → Tree → List Symbol → Res Says
store_then key e t = tell (draft kind_store key ∷ []) (give (assignment key e) t)

module _ {ks us : List ℕ} {i p : ℕ} {l u : List ℕ} (key : ℕ) (w : Ready ks us i (p + 1) l u) where
  assign_ready : Ready ks us i p l u
  assign_ready = ready_less p w

  assign_by : {r : Ended} {l₂ u₂ : List ℕ}
      → Meets ks us (λ s. bind (reads expr levels s) (store_then key)) i p l u r l₂ u₂
      → Meets ks us (assigned (calls (held_row ks us)) levels key) i p l u r l₂ u₂
  unfolding assigned
  assign_by g = meets_by (assigned (calls (held_row ks us)) levels key) (rw (expr_at ks us i levels w.even)) g

  pub assign_stopped : {r : Ended} {l₁ u₁ : List ℕ} → (r.code ≡ 0 → ⊥) → Parses ks us expr levels i p l u r l₁ u₁
      → Meets ks us (assigned (calls (held_row ks us)) levels key) i p l u r l₁ u₁
  assign_stopped e h = assign_by (stops (store_then key) e h)

  module _ {j q : ℕ} {l₁ u₁ : List ℕ} (h : Parses ks us expr levels i p l u (part_done j q) l₁ u₁) where
    pub assign_room : (q < length l₁) × (q < length u₁)
    assign_room =
        let a = after assign_ready h in
        let b = w.within in
        (omega (arith, w.room_kinds), omega (arith, w.room_args))

    pub assign_done : {q' : ℕ} {l₂ u₂ : List ℕ} → Puts kind_store key q l₁ u₁ q' l₂ u₂
        → Meets ks us (assigned (calls (held_row ks us)) levels key) i p l u (part_done j q') l₂ u₂
    assign_done x =
        let a = after assign_ready h in
        assign_by
        (goes_on (store_then key) assign_ready h λ z. meets_tell x (meets_give w.even a.inside (assignment key z)))

-- ---- a state

-- what follows the expression of the rate
abbrev rate_then : ℕ → Initial → Tree → List Symbol → Res Says
rate_then key n e t = need 41 t λ u. tell (draft kind_rate key ∷ []) (give (state key n e) u)

module _ {ks us : List ℕ} {i p : ℕ} {l u : List ℕ} (key : ℕ) (w : Ready ks us i p l u) where
  rate_by : {r : Ended} {l₂ u₂ : List ℕ} (n : Initial)
      → Meets ks us (λ s. bind (reads expr levels s) (rate_then key n)) i p l u r l₂ u₂
      → Meets ks us (rated (calls (held_row ks us)) levels key n) i p l u r l₂ u₂
  rate_by n g = meets_by (rated (calls (held_row ks us)) levels key n) (rw (expr_at ks us i levels w.even)) g

  pub rate_stopped : {r : Ended} {l₁ u₁ : List ℕ} → (r.code ≡ 0 → ⊥) → Parses ks us expr levels i p l u r l₁ u₁
      → (n : Initial) → Meets ks us (rated (calls (held_row ks us)) levels key n) i p l u r l₁ u₁
  rate_stopped e h n = rate_by n (stops (rate_then key n) e h)

  module _ {j q : ℕ} {l₁ u₁ : List ℕ} (h : Parses ks us expr levels i p l u (part_done j q) l₁ u₁) where
    pub rate_shut : {m : Misread} → Needs ks j 41 (Err m) → (n : Initial)
        → Meets ks us (rated (calls (held_row ks us)) levels key n) i p l u (stopped_by m) l₁ u₁
    rate_shut z n =
        let a = after w h in
        rate_by n (goes_on (rate_then key n) w h λ x.
        meets_shut (λ u. tell (draft kind_rate key ∷ []) (give (state key n x) u)) 41 w.even a.inside (omega arith) z)

    module _ {e : ℕ} (z : Needs ks j 41 (Ok e)) where
      rate_inside : j < length ks
      rate_inside = stands ks j λ y. let v = z.0 in omega arith

      pub rate_room : (q < length l₁) × (q < length u₁)
      rate_room =
          let a = after w h in let b = rate_inside in (omega (arith, w.room_kinds), omega (arith, w.room_args))

      pub rate_done : {q' : ℕ} {l₂ u₂ : List ℕ} → Puts kind_rate key q l₁ u₁ q' l₂ u₂ → (n : Initial)
          → Meets ks us (rated (calls (held_row ks us)) levels key n) i p l u (part_done e q') l₂ u₂
      rate_done x n =
          let b = rate_inside in
          let f = z.1 in
          rate_by n (goes_on (rate_then key n) w h λ v. meets_need 41 w.even (omega arith) z
          (meets_tell x (meets_give w.even (omega arith) (state key n v))))

module _ {ks us : List ℕ} {i p : ℕ} {l u : List ℕ} (key : ℕ) (w : Ready ks us i p l u) where
  -- no opening parenthesis
  pub state_shut : {m : Misread} → Needs ks i 40 (Err m)
      → Meets ks us (integrated (calls (held_row ks us)) levels key) i p l u (stopped_by m) l u
  unfolding integrated
  state_shut n = meets_shut (begun_state (calls (held_row ks us)) levels key) 40 w.even w.within (omega arith) n

  module _ {s : ℕ} (there : Needs ks i 40 (Ok s)) where
    pub state_within : Within ks us s
    state_within =
        let a = stands ks i (λ z. let y = there.0 in omega arith) in
        let b = there.1 in
        record { even = w.even; within = omega arith }

    state_open : {r : Ended} {l₁ u₁ : List ℕ}
        → Meets ks us (begun_state (calls (held_row ks us)) levels key) s p l u r l₁ u₁
        → Meets ks us (integrated (calls (held_row ks us)) levels key) i p l u r l₁ u₁
    unfolding integrated
    state_open g = meets_need 40 w.even (omega arith) there g

    -- no initial
    pub state_missing : {c j : ℕ} → Missing c j ≡ initial_at ks us s
        → Meets ks us (integrated (calls (held_row ks us)) levels key) i p l u (part_stopped c j) l u
    state_missing h = state_open (initial_stops state_within _ h)

    module _ {k a j : ℕ} (h : Found k a j ≡ initial_at ks us s) where
      start : ValuedAt initial_draft initially ks us s k a j
      start = initial_found state_within h

      state_on : TwoOn ks us p j l u
      state_on = let v = start in two_on w j (let x = there.1 in let y = v.on in omega arith) v.inside

      pub state_second : {p₁ : ℕ} {l₁ u₁ : List ℕ} → Puts kind_initial key p l u p₁ l₁ u₁
          → (p₁ < length l₁) × (p₁ < length u₁)
      state_second x = state_on.second x

      module _ {p₁ p₂ : ℕ} {l₁ u₁ l₂ u₂ : List ℕ} (x : Puts kind_initial key p l u p₁ l₁ u₁)
          (x' : Puts k a p₁ l₁ u₁ p₂ l₂ u₂) where
        -- the two drafts of the initial
        state_started : {r : Ended} {l₃ u₃ : List ℕ}
            → ((n : Initial) → Meets ks us (λ t. need 44 t (rated (calls (held_row ks us)) levels key n)) j
            p₂ l₂ u₂ r l₃ u₃)
            → Meets ks us (integrated (calls (held_row ks us)) levels key) i p l u r l₃ u₃
        state_started g =
            let v = start in
            let f = calls (held_row ks us) in
            state_open
            (value_then (λ n t. tell (draft kind_initial key ∷ initial_draft n ∷ []) (need 44 t (rated f levels key n)))
            v (two_drafts x (puts_as v.kind v.arg x') (g v.what)))

        -- no comma
        pub state_alone : {m : Misread} → Needs ks j 44 (Err m)
            → Meets ks us (integrated (calls (held_row ks us)) levels key) i p l u (stopped_by m) l₂ u₂
        state_alone n =
            state_started λ v. meets_shut (rated (calls (held_row ks us)) levels key v) 44 w.even start.inside
            (omega arith) n

        -- and the rate
        module _ {e : ℕ} (z : Needs ks j 44 (Ok e)) where
          pub state_next : Ready ks us e p₂ l₂ u₂
          state_next = rw z.1 (state_on.ready x x' (comma_inside ks j refl z.0))

          pub state_rated : {r : Ended} {l₃ u₃ : List ℕ}
              → ((n : Initial) → Meets ks us (rated (calls (held_row ks us)) levels key n) e p₂ l₂ u₂ r l₃ u₃)
              → Meets ks us (integrated (calls (held_row ks us)) levels key) i p l u r l₃ u₃
          state_rated g = state_started λ v. meets_need 44 w.even (omega arith) z (g v)

-- ---- a statement, by its first tokens

module _ {ks us : List ℕ} {p k : ℕ} {l u : List ℕ} (w : Ready ks us 0 p l u) (ek : k ≡ get_or ks 0 0) where
  -- neither a name nor one of the words that begin a statement
  pub begins_none : (k ≡ name_kind → ⊥) → (k ≡ word_kind PROCED → ⊥) → (k ≡ word_kind ENDPRO → ⊥)
      → (k ≡ word_kind CONSTANTS → ⊥)
      → Meets ks us (statement (calls (held_row ks us)) levels) 0 p l u (part_stopped 18 0) l u
  unfolding statement
  begins_none n h e m =
      meets_by (statement (calls (held_row ks us)) levels)
      (rw (token_at_holds ks us 0 w.even)
      (start_none (get_or ks 0 0) (get_or us 0 0) _ _ _ _ _ (λ z. n (ek ∙ z)) (λ z. m (ek ∙ z)) (λ z. h (ek ∙ z)) λ z. e
      (ek ∙ z)))
      (meets_stop w.even w.within 18)

  -- behind a word
  enter : (k ≡ 0 → ⊥) → Ready ks us 1 p l u
  enter h =
      let a = stands ks 0 (λ z. h (ek ∙ z)) in
      record {
        even = w.even;
        within = omega arith;
        room_kinds = omega (arith, w.room_kinds);
        room_args = omega (arith, w.room_args);
      }

  -- constants
  pub begins_words : {r : Ended} {l₁ u₁ : List ℕ} → k ≡ word_kind CONSTANTS → ParsesMany ks us 1 p l u r l₁ u₁
      → Meets ks us (statement (calls (held_row ks us)) levels) 0 p l u r l₁ u₁
  unfolding statement
  begins_words h g =
      let f = calls (held_row ks us) in
      let n = held_length ks us w.even in
      meets_by {i = 0} (statement f levels)
      (rw (token_at_holds ks us 0 w.even, start_words (get_or ks 0 0) (get_or us 0 0) (sym ek ∙ h)))
      (meets_rest (meets_map constants (g.meets f (omega arith))))

  -- a block's header
  pub begins_header : {r : Ended} {l₁ u₁ : List ℕ} → k ≡ word_kind PROCED
      → Meets ks us (headed (calls (held_row ks us))) 1 p l u r l₁ u₁
      → Meets ks us (statement (calls (held_row ks us)) levels) 0 p l u r l₁ u₁
  unfolding statement
  begins_header h g =
      meets_by {i = 0} (statement (calls (held_row ks us)) levels)
      (rw (token_at_holds ks us 0 w.even, start_header (get_or ks 0 0) (get_or us 0 0) (sym ek ∙ h))) (meets_rest g)

  -- a block's end
  pub begins_ending : {p₁ : ℕ} {l₁ u₁ : List ℕ} → k ≡ word_kind ENDPRO → Puts kind_ending 0 p l u p₁ l₁ u₁
      → Meets ks us (statement (calls (held_row ks us)) levels) 0 p l u (part_done 1 p₁) l₁ u₁
  unfolding statement
  begins_ending h x =
      let a = enter (λ z. omega arith) in
      meets_by {i = 0} (statement (calls (held_row ks us)) levels)
      (rw (token_at_holds ks us 0 w.even, start_ending (get_or ks 0 0) (get_or us 0 0) (sym ek ∙ h)))
      (meets_tell x (meets_rest (meets_give w.even a.within ending)))

  module _ (named : k ≡ name_kind) where
    pub first_inside : 0 < length ks
    first_inside = stands ks 0 λ z. let y : k ≡ 0 = ek ∙ z in omega arith

    begins_name : {r : Ended} {l₁ u₁ : List ℕ}
        → Meets ks us (λ s. need 61 s (equated (calls (held_row ks us)) levels (get_or us 0 0))) 1 p l u r l₁ u₁
        → Meets ks us (statement (calls (held_row ks us)) levels) 0 p l u r l₁ u₁
    unfolding statement
    begins_name g =
        meets_by {i = 0} (statement (calls (held_row ks us)) levels)
        (rw (token_at_holds ks us 0 w.even, start_name (get_or ks 0 0) (get_or us 0 0) (sym ek ∙ named))) (meets_rest g)

    -- no =
    pub begins_shut : {m : Misread} → Needs ks 1 61 (Err m)
        → Meets ks us (statement (calls (held_row ks us)) levels) 0 p l u (stopped_by m) l u
    begins_shut n =
        let a = first_inside in
        begins_name
        (meets_shut (equated (calls (held_row ks us)) levels (get_or us 0 0)) 61 w.even (omega arith)
        (omega arith) n)

    module _ {e : ℕ} (equals : Needs ks 1 61 (Ok e)) where
      second_inside : 1 < length ks
      second_inside = stands ks 1 λ z. let y = equals.0 in omega arith

      begins_equals : {r : Ended} {l₁ u₁ : List ℕ}
          → Meets ks us (equated (calls (held_row ks us)) levels (get_or us 0 0)) 2 p l u r l₁ u₁
          → Meets ks us (statement (calls (held_row ks us)) levels) 0 p l u r l₁ u₁
      begins_equals g = begins_name (meets_need 61 w.even (omega arith) (equals.0, refl) g)

      module _ {c : ℕ} (ec : c ≡ get_or ks 2 0) where
        -- a state
        pub third_inside : c ≡ word_kind INTGRL → 2 < length ks
        third_inside z = stands ks 2 λ v. let y : c ≡ 0 = ec ∙ v in omega arith

        pub begins_state : {r : Ended} {l₁ u₁ : List ℕ} → c ≡ word_kind INTGRL
            → Meets ks us (integrated (calls (held_row ks us)) levels (get_or us 0 0)) 3 p l u r l₁ u₁
            → Meets ks us (statement (calls (held_row ks us)) levels) 0 p l u r l₁ u₁
        begins_state z g =
            begins_equals (meets_by {i = 2} (equated (calls (held_row ks us)) levels (get_or us 0 0))
            (rw (token_at_holds ks us 2 w.even) (is_integral (get_or ks 2 0) (get_or us 2 0) _ _ (sym ec ∙ z)))
            (meets_rest g))

        -- an assignment
        pub begins_assignment : {r : Ended} {l₁ u₁ : List ℕ} → (c ≡ word_kind INTGRL → ⊥)
            → Meets ks us (assigned (calls (held_row ks us)) levels (get_or us 0 0)) 2 p l u r l₁ u₁
            → Meets ks us (statement (calls (held_row ks us)) levels) 0 p l u r l₁ u₁
        begins_assignment z g =
            begins_equals (meets_by (equated (calls (held_row ks us)) levels (get_or us 0 0))
            (rw (token_at_holds ks us 2 w.even) (no_integral (get_or ks 2 0) (get_or us 2 0) _ _ λ y. z (ec ∙ y))) g)
