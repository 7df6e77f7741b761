-- A sheet that is laid out: where its statements stand, which names are set above and below, and what may be used.
use Prim.Native.Nat.{ℕ, suc, ◌-◌}
use mathlib.Core.Path.{◌≡◌, refl, sym, ap, ap₂, ◌∙◌}
use mathlib.Core.List.{List, [], ◌∷◌, ◌++◌, map, append_assoc, append-nil}
use native.Mathlib.Omega.{arith}
use lib.Dec.{eqb}
use lib.ListN.{length, get_or, length-append}
use Rattle.laws.specs.Lists.{concat_map}
use Rattle.laws.specs.Places.{gather, only_if}
use Rattle.laws.proofs.Lists.{concat_append}
use Rattle.laws.proofs.Concats.{map_append, concat_concat, concat_same}
use Rattle.laws.proofs.Every.{every_inside}
use Rattle.laws.proofs.Along.{starts_at}
use Rattle.drafts.specs.Tree.{Says, constants, assignment, state, header, ending}
use Rattle.drafts.specs.Kinds.{kind_output, kind_input}
use Rattle.drafts.specs.Drafts.{drafts_of}
use Rattle.sheet.specs.Sheet.{Numbered}
use Rattle.sheet.specs.Layout.{drafts_in, draft_kinds, draft_args, Laid}
use Rattle.blocks.specs.Pairing.{bracket_of, HeadedBy, Headed}
use Rattle.blocks.specs.Inside.{free_said, free_known, set_by, set_next, set_inside}
use Rattle.blocks.specs.Units.{Inner}
use Rattle.blocks.specs.Members.{Pending, idle, partly, keys_inside, inner_of, pending_by}
use Rattle.blocks.specs.Places.{bracket_at}
use Rattle.blocks.specs.InsidePlaces.{standing_behind, standing_at, key_at, keys_at, set_at, set_above, unless_shut}
use Rattle.blocks.specs.InsidePlaces.{set_below, is_free, free_args}
use Rattle.blocks.proofs.DraftsWalk.{kind_at, arg_at, in_part}
use Rattle.blocks.proofs.SheetBrackets.{drafts_by, bounds_starts, bracket_laid}
use Rattle.blocks.proofs.LastDrafts.{in_all, set_row}
use Rattle.blocks.proofs.StatementKeys.{key_of_kind, free_key, free_said_holds, header_outputs, header_inputs, set_said}

-- the name that a statement sets
abbrev pub setting_by : Numbered → List ℕ
setting_by s = set_by s.says

-- what has been read behind a row
unfoldable pub pending_after : Pending → List Numbered → Pending
pending_after b [] = b
pending_after b (s ∷ ss) = pending_after (pending_by b s.line s.says) ss

pub pending_more : (b : Pending) (ss : List Numbered) (s : Numbered)
    → pending_after b (ss ++ (s ∷ [])) ≡ pending_by (pending_after b ss) s.line s.says
unfolding pending_after
pending_more b [] s = refl
pending_more b (t ∷ ss) s = pending_more (pending_by b t.line t.says) ss s

length_more : {A : Type 0} (l : List A) (a : A) → length (l ++ (a ∷ [])) ≡ suc (length l)
length_more l a = omega (arith, length-append l (a ∷ []))

-- gathering over the members y of a list between x and z, by number
gather_middle : {A B : Type 0} (h : ℕ → List B) (F : A → List B) (l : List A)
    → ((a : List A) (s : A) (b : List A) → l ≡ a ++ s ∷ b → h (length a) ≡ F s) → (x y z : List A) → l ≡ x ++ (y ++ z)
    → gather h (length y) (length x) ≡ concat_map F y
unfolding gather concat_map
gather_middle h F l e x [] z p = refl
gather_middle h F l e x (s ∷ y) z p =
    ap₂ ◌++◌ (e x s (y ++ z) p)
    (rw (length_more x s) at
    (gather_middle h F l e (x ++ (s ∷ [])) y z (p ∙ sym (append_assoc x (s ∷ []) (y ++ z)))))

-- ---- inside a block: behind the statements a, with these outputs and inputs, and these names set since its header
pub record Enclosing (a : List Numbered) (c : ℕ) (os is ks : List ℕ) : Type 0 where
  pub before : List Numbered
  pub head : Numbered
  pub inside : List Numbered
  pub split : a ≡ before ++ head ∷ inside
  pub standing : c ≡ suc (length before)
  pub heads : head.says ≡ header os is
  pub names : concat_map setting_by inside ≡ ks

abbrev pub Located : List Numbered → ℕ → Pending → Type 0
Located a c idle = c ≡ 0
Located a c (partly h os is ns) = Enclosing a c os is (keys_inside ns)

-- one statement more
enclosing_more : {a : List Numbered} {c : ℕ} {os is ks : List ℕ} (s : Numbered) (ms : List ℕ) → set_by s.says ≡ ms
    → Enclosing a c os is ks → Enclosing (a ++ (s ∷ [])) c os is (ks ++ ms)
unfolding concat_map
enclosing_more {a} s ms e v =
    record {
      before = v.before;
      head = v.head;
      inside = v.inside ++ (s ∷ []);
      split = ap (λ r. r ++ (s ∷ [])) v.split ∙ append_assoc v.before (v.head ∷ v.inside) (s ∷ []);
      standing = v.standing;
      heads = v.heads;
      names = concat_append setting_by v.inside (s ∷ [])
          ∙ ap₂ ◌++◌ v.names (append-nil (setting_by s) ∙ e);
    }

located_more : (a : List Numbered) (c : ℕ) (b : Pending) (s : Numbered) → set_by s.says ≡ [] → Located a c b
    → Located (a ++ (s ∷ [])) c b
located_more a c idle s e v = v
located_more a c (partly h os is ns) s e v = rw (append-nil (keys_inside ns)) at (enclosing_more s [] e v)

located_next : (a : List Numbered) (c : ℕ) (b : Pending) (s : Numbered) (x : Says) → s.says ≡ x → Located a c b
    → Located (a ++ (s ∷ [])) (standing_behind (bracket_of x) (length a) c) (pending_by b s.line x)
unfolding concat_map
located_next a c b s (constants cs) e v = located_more a c b s (ap set_by e) v
located_next a c idle s (assignment k t) e v = v
located_next a c (partly h os is ns) s (assignment k t) e v =
    rw (sym (map_append (λ (n : Inner). n.key) ns (inner_of os ns s.line k t ∷ []))) at
    (enclosing_more s (k ∷ []) (ap set_by e) v)
located_next a c b s (state k i t) e v = located_more a c b s (ap set_by e) v
located_next a c b s (header os is) e v =
    record { before = a; head = s; inside = []; split = refl; standing = refl; heads = e; names = refl }
located_next a c b s ending e v = refl

-- ---- the arrays of the sheet of ss, each header of which names an output
module _ (ss : List Numbered) (headed : Headed ss) where
  abbrev kinds : List ℕ
  kinds = draft_kinds (drafts_in ss)

  abbrev args : List ℕ
  args = draft_args (drafts_in ss)

  abbrev bounds : List ℕ
  bounds = starts_at drafts_by 0 ss

  abbrev lines : List ℕ
  lines = map (λ (s : Numbered). s.line) ss

  pub held : Laid ss kinds args lines bounds
  held =
      record { kinds_held = refl; args_held = refl; lines_held = refl; bounds_held = sym (bounds_starts 0 ss) }

  -- statement s, with a before it and b behind
  module _ (a : List Numbered) (s : Numbered) (b : List Numbered) (p : ss ≡ a ++ s ∷ b) where
    pub bracket_at_holds : bracket_at bounds kinds (length a) ≡ bracket_of s.says
    bracket_at_holds =
        bracket_laid held a s b p (every_inside (λ (t : Numbered). HeadedBy t.says) a s b (rw p at headed))

    pub set_at_holds : set_at bounds kinds args (length a) ≡ set_by s.says
    set_at_holds = set_row drafts_by ss a s b p ∙ set_said s.says

    pub keys_at_holds : (kind : ℕ)
        → keys_at bounds kinds args kind (length a) ≡ concat_map (key_of_kind kind) (drafts_by s)
    keys_at_holds kind =
        in_part drafts_by ss a s b p (key_at kinds args kind) (key_of_kind kind)
        (λ i. ap₂ (λ (k x : ℕ). only_if (eqb k kind) x) (kind_at (drafts_in ss) i) (arg_at (drafts_in ss) i))

  -- THE CONSTANTS AND STATES of the text
  pub free_known_holds : free_args kinds args ≡ free_known ss
  unfolding free_args
  free_known_holds =
      in_all drafts_by ss (λ i. only_if (is_free (get_or kinds i 0)) (get_or args i 0)) free_key
      (λ i. ap₂ (λ (k x : ℕ). only_if (is_free k) x) (kind_at (drafts_in ss) i) (arg_at (drafts_in ss) i))
      ∙ concat_concat free_key drafts_by ss
      ∙ concat_same (λ (s : Numbered). concat_map free_key (drafts_by s)) (λ (s : Numbered). free_said s.says)
      (λ s. free_said_holds s.says) ss

  -- THE NAMES set below a place, before the next end
  pub set_below_holds : (a b : List Numbered) → ss ≡ a ++ b
      → set_below bounds kinds args (length b) (length a) ≡ set_inside b
  unfolding set_below set_inside
  set_below_holds a [] p = refl
  set_below_holds a (s ∷ b) p =
      let rest : set_below bounds kinds args (length b) (suc (length a)) ≡ set_inside b =
      rw (length_more a s) at (set_below_holds (a ++ (s ∷ [])) b (p ∙ sym (append_assoc a (s ∷ []) b))) in
      rw (bracket_at_holds a s b p) (rw (set_at_holds a s b p, rest) (go s.says))
    where
      go : (x : Says) → unless_shut (bracket_of x) (set_by x ++ set_inside b) ≡ set_next x (set_inside b)
      go (constants cs) = refl
      go (assignment k e) = refl
      go (state k i e) = refl
      go (header os is) = refl
      go ending = refl

  -- ---- inside a block
  module _ {a : List Numbered} {c : ℕ} {os is ks : List ℕ} (v : Enclosing a c os is ks) (b : List Numbered)
      (p : ss ≡ a ++ b) where
    whole : ss ≡ v.before ++ v.head ∷ (v.inside ++ b)
    whole = p ∙ ap (λ r. r ++ b) v.split ∙ append_assoc v.before (v.head ∷ v.inside) b

    head_keys : (kind : ℕ) → keys_at bounds kinds args kind (c - 1) ≡ concat_map (key_of_kind kind)
        (drafts_of (header os is))
    head_keys kind =
        let h : c - 1 ≡ length v.before = omega (arith, v.standing) in
        ap (keys_at bounds kinds args kind) h
        ∙ keys_at_holds v.before v.head (v.inside ++ b) whole kind
        ∙ ap (λ x. concat_map (key_of_kind kind) (drafts_of x)) v.heads

    pub outputs_of : keys_at bounds kinds args kind_output (c - 1) ≡ os
    outputs_of = head_keys kind_output ∙ header_outputs os is

    pub inputs_of : keys_at bounds kinds args kind_input (c - 1) ≡ is
    inputs_of = head_keys kind_input ∙ header_inputs os is

    pub above_of : set_above bounds kinds args c (length a) ≡ ks
    above_of =
        let front : List Numbered = v.before ++ (v.head ∷ []) in
        let at : length front ≡ c = length_more v.before v.head ∙ sym v.standing in
        let long : length a - c ≡ length v.inside =
        omega (arith, v.standing, ap length v.split, length-append v.before (v.head ∷ v.inside)) in
        let split : ss ≡ front ++ (v.inside ++ b) = whole ∙ sym
        (append_assoc v.before (v.head ∷ []) (v.inside ++ b)) in
        let row = gather_middle (set_at bounds kinds args) setting_by ss set_at_holds front v.inside b split in
        rw long (rw at at row) ∙ v.names

  -- ---- THE SPOT of each statement
  standing_more : (a : List Numbered) (s : Numbered) (b : List Numbered) → ss ≡ a ++ s ∷ b
      → Located a (standing_at bounds kinds (length a)) (pending_after idle a)
      → Located (a ++ (s ∷ [])) (standing_at bounds kinds (length (a ++ (s ∷ [])))) (pending_after idle (a ++ (s ∷ [])))
  unfolding standing_at
  standing_more a s b p v =
      rw (length_more a s, pending_more idle a s)
      (rw (bracket_at_holds a s b p) (located_next a (standing_at bounds kinds (length a)) (pending_after idle a) s
      s.says refl v))

  standing_along : (a x b : List Numbered) → ss ≡ a ++ (x ++ b)
      → Located a (standing_at bounds kinds (length a)) (pending_after idle a)
      → Located (a ++ x) (standing_at bounds kinds (length (a ++ x))) (pending_after idle (a ++ x))
  standing_along a [] b p v = rw (append-nil a) v
  standing_along a (s ∷ x) b p v =
      rw (append_assoc a (s ∷ []) x) at
      (standing_along (a ++ (s ∷ [])) x b (p ∙ sym (append_assoc a (s ∷ []) (x ++ b))) (standing_more a s (x ++ b) p v))

  pub located : (a b : List Numbered) → ss ≡ a ++ b
      → Located a (standing_at bounds kinds (length a)) (pending_after idle a)
  unfolding standing_at pending_after
  located a b p = standing_along [] a b p refl
