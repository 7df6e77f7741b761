-- The same for a factor, an opening, and the expressions that it wants.
use Prim.Native.Nat.{ℕ, suc, ◌+◌, ◌-◌, ◌*◌, ◌≤◌, ◌<◌}
use Rattle.std.specs.Prelude.{Option, Some, None, Ok, Err}
use mathlib.Core.Path.{◌≡◌, refl, sym, ap, ◌∙◌}
use mathlib.Core.Bool.{Bool, true, false, cond}
use mathlib.Core.List.{List, [], ◌∷◌}
use native.Mathlib.Omega.{arith}
use borrow.Author.Tests.{le-leb, lt-leb}
use lib.Dec.{eqb, leb}
use lib.ListN.{length, get_or, drop}
use Rattle.tokens.specs.Symbol.{Symbol, mark}
use Rattle.tokens.specs.Held.{symbol_of, held_row}
use Rattle.grammar.specs.declared.faces.Face.{Face}
use Rattle.grammar.specs.declared.faces.Face.TheVariants.{One, Group, Function}
use Rattle.drafts.specs.Tree.{Tree}
use Rattle.drafts.specs.Drafts.{draft, drafted}
use Rattle.grammar.specs.Look.{next, rest, byte_of, Opening, group, pair, pair_of, triple, triple_of}
use Rattle.grammar.specs.Look.{triple_of_two, Given, full, wants, give_to}
use Rattle.grammar.specs.Look.{FactorStart, factor_start}
use Rattle.grammar.specs.Grammar.{expr, factor, opened, list}
use Rattle.grammar.specs.Parser.{Res, give, stop, tell, when, by_factor, by_given, need, open_drafts, reads}
use Rattle.grammar.specs.Codes.{want_of, kind_opening, leaf_arg, face_of}
use Rattle.grammar.specs.declared.Misread.{Misread}
use Rattle.grammar.specs.Contract.{Ended, stopped_by, Needs}
use Rattle.grammar.specs.Contract.{op_drafts, Puts, PutsOp, Ready, part_done, part_stopped, Meets, Parses}
use Rattle.grammar.proofs.Clauses.{reads_factor, reads_opened, reads_deep, reads_list}
use Rattle.grammar.proofs.Seen.{token_at_holds, stands, leaf_noted, face_noted, as_shown}
use Rattle.grammar.proofs.Meets.{meets_by, meets_rest, meets_give, meets_stop, meets_tell, meets_op, meets_mark}
use Rattle.grammar.proofs.Meets.{meets_else, meets_need, meets_shut}
use Rattle.grammar.proofs.Ways.{after, stops, goes_on}

-- ---- a factor, by the face f of its token's kind k

module _ {ks us : List ℕ} {i p k : ℕ} {l u : List ℕ} {f : Option Face} (w : Ready ks us i p l u)
    (ek : k ≡ get_or ks i 0) (ef : (a : ℕ) → f ≡ face_of (factor_start (symbol_of k a))) where
  -- what the token begins as a factor
  token_start : factor_start (next (drop i (held_row ks us))) ≡ factor_start (symbol_of k (get_or us i 0))
  token_start =
      ap factor_start (token_at_holds ks us i w.even)
      ∙ ap (λ (x : ℕ). factor_start (symbol_of x (get_or us i 0))) (sym ek)

  -- the reading by it
  by_factor_holds : (d : ℕ) {h : FactorStart} → factor_start (symbol_of k (get_or us i 0)) ≡ h
      → reads factor d (drop i (held_row ks us))
      ≡ (let s = drop i (held_row ks us) in by_factor h (λ e. tell (drafted e) (give e (rest s)))
      (λ _. reads (opened group) d s)
      (λ p. when (eqb (byte_of (next (rest s))) 40) (λ _. reads (opened p) d (rest s)) (λ _. stop 18 (rest s)))
      (λ _. stop 18 s))
  by_factor_holds d h = reads_factor d (drop i (held_row ks us)) ∙ rw (token_start ∙ h)

  -- it stands before the end
  pub one_inside : {n : ℕ} → f ≡ Some (One n) → i < length ks
  one_inside e = stands ks i λ z. face_noted k 0 (sym e ∙ ef 0) (ek ∙ z)

  pub function_inside : {n c : ℕ} → f ≡ Some (Function n c) → i < length ks
  function_inside e = stands ks i λ z. face_noted k 0 (sym e ∙ ef 0) (ek ∙ z)

  -- one draft
  pub one_room : {n : ℕ} → f ≡ Some (One n) → (p < length l) × (p < length u)
  one_room e = let a = one_inside e in (omega (arith, w.room_kinds), omega (arith, w.room_args))

  pub factor_one : {d n a p₁ : ℕ} {l₁ u₁ : List ℕ} → f ≡ Some (One n) → a ≡ leaf_arg n (get_or us i 0)
      → Puts n a p l u p₁ l₁ u₁
      → Parses ks us factor d i p l u (part_done (i + 1) p₁) l₁ u₁
  factor_one {d} {n} {a} e g x =
      let row = held_row ks us in
      let b = one_inside e in
      let h = as_shown k (get_or us i 0) (sym e ∙ ef (get_or us i 0)) in
      let z : drafted h.0 ≡ draft n a ∷ [] = leaf_noted k (get_or us i 0) h.1 ∙ rw (h.2, g) in
      record {
        meets = meets_by (reads factor d) (by_factor_holds d h.1 ∙ ap (λ is. tell is (give h.0 (rest (drop i row)))) z)
            (meets_tell x (meets_rest (meets_give w.even (omega arith) h.0)));
      }

  -- parentheses
  pub group_enter : {t : ℕ} → f ≡ Some Group → 1 + 5 * (length ks - i) ≡ t
      → (5 * (length ks - i) < t) × ((get_or ks i 0 ≡ 40) × Ready ks us i p l u)
  group_enter e m = (omega arith, (sym ek ∙ face_noted k 0 (sym e ∙ ef 0), w))

  pub factor_group : {d : ℕ} {r : Ended} {l₁ u₁ : List ℕ} → f ≡ Some Group
      → ((o : Opening) → want_of o ≡ 1 → kind_opening o ≡ None → Parses ks us (opened o) d i p l u r l₁ u₁)
      → Parses ks us factor d i p l u r l₁ u₁
  factor_group {d} e g =
      record {
        meets = meets_by (reads factor d) (by_factor_holds d (as_shown k (get_or us i 0) (sym e ∙ ef (get_or us i 0))))
            (g group refl refl).meets;
      }

  -- a function
  pub factor_function : {d n c : ℕ} {r : Ended} {l₁ u₁ : List ℕ} → f ≡ Some (Function n c) → get_or ks (i + 1) 0 ≡ 40
      → ((o : Opening) → want_of o ≡ n → kind_opening o ≡ Some c → Parses ks us (opened o) d (i + 1) p l u r l₁ u₁)
      → Parses ks us factor d i p l u r l₁ u₁
  factor_function {d} e z g =
      let h = as_shown k (get_or us i 0) (sym e ∙ ef (get_or us i 0)) in
      record {
        meets = meets_by (reads factor d) (by_factor_holds d h.1)
            (meets_rest (meets_mark (stop 18) 40 w.even (omega arith) z (g h.0 h.2 h.3).meets));
      }

  pub factor_shut : {d n c : ℕ} {m : Misread} → f ≡ Some (Function n c) → Needs ks (i + 1) 40 (Err m)
      → Parses ks us factor d i p l u (stopped_by m) l u
  factor_shut {d} e z =
      let a = function_inside e in
      let h = as_shown k (get_or us i 0) (sym e ∙ ef (get_or us i 0)) in
      rw z.1
      (record {
        meets = meets_by (reads factor d) (by_factor_holds d h.1)
            (meets_rest
            (meets_else (reads (opened h.0) d) 40 w.even (omega arith) z.0
            (meets_stop w.even (omega arith) 18)));
      })

  pub factor_none : {d : ℕ} → f ≡ None → Parses ks us factor d i p l u (part_stopped 18 i) l u
  factor_none {d} e =
      record {
        meets = meets_by (reads factor d) (by_factor_holds d (as_shown k (get_or us i 0) (sym e ∙ ef (get_or us i 0))))
            (meets_stop w.even w.within 18);
      }

-- ---- an opening

module _ {ks us : List ℕ} {i p : ℕ} {l u : List ℕ} (w : (get_or ks i 0 ≡ 40) × Ready ks us i p l u) where
  -- no level is left
  pub opened_deep : {d : ℕ} → d ≡ 0 → (o : Opening) → Parses ks us (opened o) d i p l u (part_stopped 19 i) l u
  opened_deep z o =
      let row = held_row ks us in
      rw z
      (record {
        meets = meets_by (reads (opened o) 0) (reads_deep (drop i row) o)
            (meets_stop w.1.even w.1.within 19);
      })

  -- the mark is there
  pub opened_inside : i < length ks
  opened_inside = stands ks i λ z. let y = w.0 in omega arith

  pub opened_on : {d : ℕ} {r : Ended} {l₁ u₁ : List ℕ} → (d ≡ 0 → ⊥) → (o : Opening)
      → Parses ks us (list o) (d - 1) (i + 1) p l u r l₁ u₁
      → Parses ks us (opened o) d i p l u r l₁ u₁
  opened_on {d} z o h =
      let row = held_row ks us in
      let there : next (drop i row) ≡ mark 40 =
      token_at_holds ks us i w.1.even ∙ ap (λ (k : ℕ). symbol_of k (get_or us i 0)) w.0 in
      let n : d ≡ suc (d - 1) = omega arith in
      let same = ap (λ (k : ℕ). reads (opened o) k (drop i row)) n ∙ reads_opened (d - 1) (drop i row) o there in
      record { meets = meets_by (reads (opened o) d) same (meets_rest h.meets) }

-- ---- the expressions that an opening wants

-- behind the last expression stands a closing parenthesis, behind the others a comma
abbrev pub closer_of : ℕ → ℕ
closer_of n = cond (leb n 1) 41 44

pub closer_last : (n : ℕ) → n ≤ 1 → 41 ≡ closer_of n
closer_last n h = rw (le-leb n 1 h)

pub closer_comma : (n : ℕ) → 1 < n → 44 ≡ closer_of n
closer_comma n h = rw (lt-leb n 1 h)

-- what an opening makes of one more, by how many it wants
abbrev Taken : Opening → Given → Type 0
Taken o (full x) = want_of o ≡ 1
Taken o (wants q) = (want_of o ≡ suc (want_of q)) × (0 < want_of q) × (kind_opening q ≡ kind_opening o)

taken : (o : Opening) (e : Tree) → Taken o (give_to o e)
unfolding give_to
taken group e = refl
taken pair e = (refl, omega arith, refl)
taken (pair_of a) e = refl
taken (triple n) e = (refl, omega arith, refl)
taken (triple_of n a) e = (refl, omega arith, refl)
taken (triple_of_two n a b) e = refl

-- what it writes behind them
open_is : (o : Opening) → open_drafts o ≡ op_drafts (kind_opening o)
open_is group = refl
open_is pair = refl
open_is (pair_of a) = refl
open_is (triple n) = refl
open_is (triple_of n a) = refl
open_is (triple_of_two n a b) = refl

op_few : (c : Option ℕ) → length (op_drafts c) ≤ 1
op_few None = omega arith
op_few (Some k) = omega arith

-- what follows an expression
abbrev list_then : ℕ → Opening → Tree → List Symbol → Res Tree
list_then d o e t =
    by_given (give_to o e) (λ x. need 41 t λ u. tell (open_drafts o) (give x u)) (λ q. need 44 t (reads (list q) d))

module _ {ks us : List ℕ} {d i p : ℕ} {l u : List ℕ} where
  list_stopped : {r : Ended} {l₁ u₁ : List ℕ} → (r.code ≡ 0 → ⊥) → Parses ks us expr d i p l u r l₁ u₁
      → (o : Opening) → Parses ks us (list o) d i p l u r l₁ u₁
  list_stopped e h o =
      record {
        meets = meets_by (reads (list o) d) (reads_list d (drop i (held_row ks us)) o)
            (stops (list_then d o) e h);
      }

  module _ {j q : ℕ} {l₁ u₁ : List ℕ} (w : Ready ks us i p l u)
      (h : Parses ks us expr d i p l u (part_done j q) l₁ u₁) where
    list_done : {r : Ended} {l₂ u₂ : List ℕ} (o : Opening)
        → ((x : Tree) → Meets ks us (list_then d o x) j q l₁ u₁ r l₂ u₂)
        → Parses ks us (list o) d i p l u r l₂ u₂
    list_done o g =
        record {
          meets = meets_by (reads (list o) d) (reads_list d (drop i (held_row ks us)) o)
              (goes_on (list_then d o) w h g);
        }

    -- by what the opening makes of the expression
    by_given_holds : {r : Ended} {l₂ u₂ : List ℕ} (o : Opening)
        → ((x : Tree) → want_of o ≡ 1 → Meets ks us
        (λ t. need 41 t λ u. tell (open_drafts o) (give x u)) j q l₁ u₁ r l₂ u₂)
        → ((b : Opening) → want_of o ≡ suc (want_of b) → 0 < want_of b → kind_opening b ≡ kind_opening o
        → Meets ks us (λ t. need 44 t (reads (list b) d)) j q l₁ u₁ r l₂ u₂)
        → Parses ks us (list o) d i p l u r l₂ u₂
    by_given_holds {r} {l₂} {u₂} o f g = list_done o λ x. go (give_to o x) (taken o x)
      where
        go : (v : Given) → Taken o v
            → Meets ks us
            (λ t. by_given v (λ x. need 41 t λ u. tell (open_drafts o) (give x u)) (λ q. need 44 t (reads (list q) d)))
            j q l₁ u₁ r l₂ u₂
        go (full x) z = f x z
        go (wants b) z = g b z.0 z.1 z.2

    -- behind an expression of n that are wanted stands the kind m
    module _ (n : ℕ) {m : ℕ} (em : m ≡ closer_of n) where
      -- another mark stands behind it
      list_shut : {x : Misread} → Needs ks j m (Err x) → (o : Opening) → want_of o ≡ n
          → Parses ks us (list o) d i p l u (stopped_by x) l₁ u₁
      list_shut z o ew =
          let a = after w h in
          by_given_holds o
          (λ x v. let m = em ∙ rw (le-leb n 1 (omega arith)) in
          meets_shut (λ u. tell (open_drafts o) (give x u)) 41 w.even a.inside (omega arith)
          (λ y. z.0 (y ∙ sym m), z.1))
          λ b v g f. let m = em ∙ rw (lt-leb n 1 (omega arith)) in
          meets_shut (reads (list b) d) 44 w.even a.inside (omega arith) (λ y. z.0 (y ∙ sym m), z.1)

      module _ {j' : ℕ} (z : Needs ks j m (Ok j')) where
        -- the mark stands there
        closer_inside : j < length ks
        closer_inside = stands ks j λ y. go (leb n 1) (sym y ∙ z.0 ∙ em)
          where
            go : (t : Bool) → ◌≡◌ {A = ℕ} 0 (cond t 41 44) → ⊥
            go true v = omega arith
            go false v = omega arith

        -- a comma: the next one
        list_enter : Ready ks us j' q l₁ u₁
        list_enter =
            let a = after w h in
            let b = closer_inside in
            let e = z.1 in
            record {
              even = w.even;
              within = omega arith;
              room_kinds = omega (arith, w.room_kinds);
              room_args = omega (arith, w.room_args);
            }

        list_more : {c : Option ℕ} {r : Ended} {l₂ u₂ : List ℕ} → 1 < n
            → ((b : Opening) → want_of b ≡ n - 1 → kind_opening b ≡ c → Parses ks us (list b) d j' q l₁ u₁ r l₂ u₂)
            → (o : Opening) → want_of o ≡ n → kind_opening o ≡ c → Parses ks us (list o) d i p l u r l₂ u₂
        list_more lt g o ew ec =
            by_given_holds o (λ x v. absurd (omega arith))
            λ b v s f. meets_need 44 w.even (omega arith) (z.0 ∙ em ∙ rw (lt-leb n 1 lt), z.1)
            (g b (omega arith) (f ∙ ec)).meets

        -- the closing parenthesis, and the opening's draft
        list_room : (q < length l₁) × (q < length u₁)
        list_room =
            let a = after w h in let b = closer_inside in (omega (arith, w.room_kinds), omega (arith, w.room_args))

        list_last : {c : Option ℕ} {q' : ℕ} {l₂ u₂ : List ℕ} → n ≤ 1 → PutsOp c q l₁ u₁ q' l₂ u₂
            → (o : Opening) → want_of o ≡ n → kind_opening o ≡ c
            → Parses ks us (list o) d i p l u (part_done j' q') l₂ u₂
        list_last {c} le f o ew ec =
            let b = closer_inside in
            let e = z.1 in
            let s : open_drafts o ≡ op_drafts c = open_is o ∙ rw ec in
            by_given_holds o
            (λ x v. meets_need 41 w.even (omega arith) (z.0 ∙ em ∙ rw (le-leb n 1 le), z.1)
            (meets_by (λ u. tell (open_drafts o) (give x u))
            (ap (λ is. tell is (give x (drop j' (held_row ks us)))) s)
            (meets_op f (meets_give w.even (omega arith) x))))
            λ b v s f. absurd (omega arith)

-- ---- a list on its way

-- Of n expressions, wanted from token i and draft p on with the draft c behind them, m are still to be read, from token
-- j on. What these give, all give.
pub record GoingList (ks us : List ℕ) (d i p : ℕ) (l u : List ℕ) (n : ℕ) (c : Option ℕ) (j m q : ℕ)
    (l₁ u₁ : List ℕ) : Type 0 where
  pub on : i ≤ j
  pub ready : Ready ks us j q l₁ u₁
  pub all : {r : Ended} {l₂ u₂ : List ℕ}
      → ((b : Opening) → want_of b ≡ m → kind_opening b ≡ c → Parses ks us (list b) d j q l₁ u₁ r l₂ u₂)
      → (o : Opening) → want_of o ≡ n → kind_opening o ≡ c → Parses ks us (list o) d i p l u r l₂ u₂

-- at first all are
pub list_first : {ks us : List ℕ} {d i p : ℕ} {l u : List ℕ} (n : ℕ) (c : Option ℕ) → Ready ks us i p l u
    → GoingList ks us d i p l u n c i n p l u
list_first n c w = record { on = omega arith; ready = w; all = λ g. g }

module _ {ks us : List ℕ} {d i p : ℕ} {l u : List ℕ} {n : ℕ} {c : Option ℕ} {j m q : ℕ} {l₁ u₁ : List ℕ}
    (z : GoingList ks us d i p l u n c j m q l₁ u₁) where
  -- the next expression can be called; t is the measure of the list
  pub item_enter : {t : ℕ} → 4 + 5 * (length ks - i) ≡ t → (3 + 5 * (length ks - j) < t) × Ready ks us j q l₁ u₁
  item_enter h = let a = z.on in (omega arith, z.ready)

  -- if it stops, the list does
  pub item_stopped : {r : Ended} {l₂ u₂ : List ℕ} → (r.code ≡ 0 → ⊥) → Parses ks us expr d j q l₁ u₁ r l₂ u₂
      → (o : Opening) → want_of o ≡ n → kind_opening o ≡ c → Parses ks us (list o) d i p l u r l₂ u₂
  item_stopped e h = z.all λ b _ _. list_stopped e h b

  -- the kind s should stand behind it
  module _ {j₁ q₁ : ℕ} {l₂ u₂ : List ℕ} (h : Parses ks us expr d j q l₁ u₁ (part_done j₁ q₁) l₂ u₂) {s : ℕ}
      (es : s ≡ closer_of m) where
    pub item_shut : {x : Misread} → Needs ks j₁ s (Err x) → (o : Opening) → want_of o ≡ n → kind_opening o ≡ c
        → Parses ks us (list o) d i p l u (stopped_by x) l₂ u₂
    item_shut y = z.all λ b v _. list_shut z.ready h m es y b v

    module _ {j₂ : ℕ} (y : Needs ks j₁ s (Ok j₂)) where
      pub item_inside : j₁ < length ks
      item_inside = closer_inside z.ready h m es y

      -- there is room for the draft of the opening
      pub item_room : (q₁ + length (op_drafts c) ≤ length l₂) × (q₁ + length (op_drafts c) ≤ length u₂)
      item_room = let a = list_room z.ready h m es y in let b = op_few c in (omega arith, omega arith)

      -- a comma: one less is to be read
      pub item_again : 1 < m → GoingList ks us d i p l u n c j₂ (m - 1) q₁ l₂ u₂
      item_again lt =
          let a = after z.ready h in
          let b = z.on in
          let e = y.1 in
          record {
            on = omega arith;
            ready = list_enter z.ready h m es y;
            all = λ g. z.all (list_more z.ready h m es y lt g);
          }

      -- the closing parenthesis
      pub item_last : {q₂ : ℕ} {l₃ u₃ : List ℕ} → m ≤ 1 → PutsOp c q₁ l₂ u₂ q₂ l₃ u₃
          → (o : Opening) → want_of o ≡ n → kind_opening o ≡ c
          → Parses ks us (list o) d i p l u (part_done j₂ q₂) l₃ u₃
      item_last le v = z.all (list_last z.ready h m es y le v)

-- at first all are, by any number that is theirs
pub list_from : {ks us : List ℕ} {d i p : ℕ} {l u : List ℕ} (n m : ℕ) (c : Option ℕ) → Ready ks us i p l u
    → m + 1 ≡ n + 1 → GoingList ks us d i p l u n c i m p l u
list_from n m c w e = let f : m ≡ n = omega arith in rw f (list_first n c w)

-- and behind a comma one less
pub item_next : {ks us : List ℕ} {d i p : ℕ} {l u : List ℕ} {n : ℕ} {c : Option ℕ} {j q : ℕ} {l₁ u₁ : List ℕ} (m : ℕ)
    {j₁ q₁ j₂ : ℕ} {l₂ u₂ : List ℕ} → GoingList ks us d i p l u n c j (m + 1) q l₁ u₁
    → Parses ks us expr d j q l₁ u₁ (part_done j₁ q₁) l₂ u₂ → Needs ks j₁ 44 (Ok j₂) → 0 < m
    → GoingList ks us d i p l u n c j₂ m q₁ l₂ u₂
item_next m z h y lt =
    let e : m + 1 - 1 ≡ m = omega arith in
    rw e at (item_again z h (closer_comma (m + 1) (omega arith)) y (omega arith))
