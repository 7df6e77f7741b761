-- The names of statements by place, as the code seeks them.
use Prim.Native.Nat.{ℕ, zero, suc, ◌+◌, ◌-◌, ◌≤◌, ◌<◌}
use mathlib.Core.Path.{◌≡◌, refl, sym, ap, ap₂, ◌∙◌}
use mathlib.Core.Bool.{Bool, true, false, not, cond, ◌&&◌, ◌||◌}
use mathlib.Core.List.{List, [], ◌∷◌, ◌++◌, append-nil}
use native.Mathlib.Numerals.{add-one}
use native.Mathlib.Omega.{arith}
use borrow.Author.Tests.{eq-eqb, ne_eqb}
use lib.Dec.{eqb}
use lib.ListN.{get_or}
use Rattle.laws.specs.Counts.{count, has}
use Rattle.laws.specs.Places.{gather, any_in, only_if}
use Rattle.laws.proofs.Members.{has_append, has_one}
use Rattle.laws.proofs.Gathers.{gather_more}
use Rattle.drafts.specs.Kinds.{kind_output, kind_ending}
use Rattle.drafts.specs.Places.{ends}
use Rattle.blocks.specs.Tests.{within, again}
use Rattle.blocks.specs.Pairing.{opens, shuts, neither}
use Rattle.blocks.specs.Inside.{head_wrong}
use Rattle.blocks.specs.Places.{leading_kind, bracket_kind, bracket_at}
use Rattle.blocks.specs.InsidePlaces.{key_at, is_setting, set_at, set_below}
use Rattle.blocks.specs.InsidePlaces.{unless_shut}
use Rattle.blocks.specs.InsideWorking.{outside_at, bad_output_at}

-- ---- a name among those that are taken only if a test holds
pub has_taken : (k x : ℕ) {b : Bool} → b ≡ true → has k (only_if b x) ≡ eqb k x
has_taken k x t = rw t (has_one k x)

pub has_untaken : (k x : ℕ) {b : Bool} → b ≡ false → has k (only_if b x) ≡ false
unfolding count
has_untaken k x t = rw t

-- ---- brackets

-- what the leading kind says
pub leads_shut : (bounds kinds : List ℕ) (j : ℕ) {k : ℕ} → k ≡ leading_kind bounds kinds j → k ≡ kind_ending
    → bracket_at bounds kinds j ≡ shuts
leads_shut bounds kinds j p q = rw (sym p ∙ q)

-- ---- settings
-- the name that a statement sets, if it sets one
pub set_last : (bounds kinds args : List ℕ) (j key : ℕ) {b : Bool} {i x : ℕ} → b ≡ is_setting bounds kinds j → b ≡ true
    → i ≡ ends bounds j - 1 → x ≡ get_or args i 0 → eqb key x ≡ has key (set_at bounds kinds args j)
set_last bounds kinds args j key p t e r =
    ap (eqb key) (r ∙ ap (λ (n : ℕ). get_or args n 0) e)
    ∙ sym (has_taken key (get_or args (ends bounds j - 1) 0) (sym p ∙ t))

pub set_none : (bounds kinds args : List ℕ) (j key : ℕ) {b : Bool} → b ≡ is_setting bounds kinds j → b ≡ false
    → false ≡ has key (set_at bounds kinds args j)
set_none bounds kinds args j key p t = sym (has_untaken key (get_or args (ends bounds j - 1) 0) (sym p ∙ t))

-- a name at a place, in a draft of the kind
pub name_there : (kinds args : List ℕ) (kind i key : ℕ) {b x : ℕ} → b ≡ get_or kinds i 0 → b ≡ kind
    → x ≡ get_or args i 0 → eqb key x ≡ has key (key_at kinds args kind i)
name_there kinds args kind i key p t r =
    ap (eqb key) r ∙ sym (has_taken key (get_or args i 0) (eq-eqb (get_or kinds i 0) kind (sym p ∙ t)))

pub name_absent : (kinds args : List ℕ) (kind i key : ℕ) {b : ℕ} → b ≡ get_or kinds i 0 → (b ≡ kind → ⊥)
    → false ≡ has key (key_at kinds args kind i)
name_absent kinds args kind i key p t =
    sym (has_untaken key (get_or args i 0) (ne_eqb (get_or kinds i 0) kind (λ e. t (p ∙ e))))

-- ---- a name that a statement from i on, before b and the next end, sets
module _ (bounds kinds args : List ℕ) (k b i : ℕ) where
  below_step : i < b → set_below bounds kinds args (b - i) i
      ≡ unless_shut (bracket_at bounds kinds i)
      (set_at bounds kinds args i ++ set_below bounds kinds args (b - (i + 1)) (i + 1))
  unfolding set_below
  below_step h = let e : b - i ≡ suc (b - (i + 1)) = omega arith in rw (e, add-one i)

  pub below_shut : i < b → bracket_at bounds kinds i ≡ shuts → has k (set_below bounds kinds args (b - i) i) ≡ false
  unfolding count
  below_shut h e = rw (below_step h, e)

  -- where it is no end
  below_open : i < b → (leading_kind bounds kinds i ≡ kind_ending → ⊥)
      → has k (set_below bounds kinds args (b - i) i)
      ≡ (has k (set_at bounds kinds args i) || has k (set_below bounds kinds args (b - (i + 1)) (i + 1)))
  below_open h e =
      let rest = set_at bounds kinds args i ++ set_below bounds kinds args (b - (i + 1)) (i + 1) in
      ap (has k) (below_step h ∙ passes (leading_kind bounds kinds i) rest e)
      ∙ has_append k (set_at bounds kinds args i) (set_below bounds kinds args (b - (i + 1)) (i + 1))
    where
      picks : (o : Bool) (rest : List ℕ) → unless_shut (cond o opens neither) rest ≡ rest
      picks true rest = refl
      picks false rest = refl

      passes : (lead : ℕ) (rest : List ℕ) → (lead ≡ kind_ending → ⊥) → unless_shut (bracket_kind lead) rest ≡ rest
      passes lead rest e = rw (ne_eqb lead kind_ending e) (picks (eqb lead kind_output) rest)

  pub below_stop : i < b → (leading_kind bounds kinds i ≡ kind_ending → ⊥) → has k (set_at bounds kinds args i) ≡ true
      → has k (set_below bounds kinds args (b - i) i) ≡ true
  below_stop h e t = rw (below_open h e, t)

  pub below_pass : i < b → (leading_kind bounds kinds i ≡ kind_ending → ⊥) → has k (set_at bounds kinds args i) ≡ false
      → has k (set_below bounds kinds args (b - i) i) ≡ has k (set_below bounds kinds args (b - (i + 1)) (i + 1))
  below_pass h e t = rw (below_open h e, t)

  pub below_done : b ≤ i → has k (set_below bounds kinds args (b - i) i) ≡ false
  unfolding set_below count
  below_done h = let e : b - i ≡ 0 = omega arith in rw e

-- ---- names that all stand in a list: none stands outside
pub within_append : (x y l : List ℕ) → within (x ++ y) l ≡ (within x l && within y l)
unfolding within
within_append [] y l = refl
within_append (k ∷ x) y l = ap (λ b. has k l && b) (within_append x y l) ∙ go (has k l)
  where
    go : (b : Bool) → (b && (within x l && within y l)) ≡ (b && within x l && within y l)
    go true = refl
    go false = refl

within_only : (b : Bool) (x : ℕ) (l : List ℕ) → within (only_if b x) l ≡ not (b && not (has x l))
unfolding within
within_only false x l = refl
within_only true x l = go (has x l)
  where
    go : (b : Bool) → (b && true) ≡ not (not b)
    go true = refl
    go false = refl

not_or : (a b : Bool) → (not a && not b) ≡ not (a || b)
not_or true b = refl
not_or false b = refl

pub within_places : (kinds args : List ℕ) (kind : ℕ) (l : List ℕ) (n i : ℕ)
    → within (gather (key_at kinds args kind) n i) l ≡ not (any_in (outside_at kinds args kind l) n i)
unfolding gather any_in within
within_places kinds args kind l zero i = refl
within_places kinds args kind l (suc n) i =
    within_append (key_at kinds args kind i) (gather (key_at kinds args kind) n (suc i)) l
    ∙ ap₂ ◌&&◌ (within_only (eqb (get_or kinds i 0) kind) (get_or args i 0) l)
    (within_places kinds args kind l n (suc i))
    ∙ not_or (outside_at kinds args kind l i) (any_in (outside_at kinds args kind l) n (suc i))

-- ---- a header's outputs: from place a on those before i are seen
module _ (kinds args ks : List ℕ) (a : ℕ) where
  abbrev output : ℕ → List ℕ
  output = key_at kinds args kind_output

  -- of one that is taken only if a test holds, and those behind it
  output_one : (b : Bool) (x : ℕ) (seen rest : List ℕ)
      → (not (within (only_if b x ++ rest) ks) || again seen (only_if b x ++ rest))
      ≡ (b && (not (has x ks) || has x seen)) || (not (within rest ks) || again (seen ++ only_if b x) rest)
  unfolding within again
  output_one true x seen rest =
      go (has x ks) (has x seen) (within rest ks) (again (seen ++ (x ∷ [])) rest)
    where
      go : (p q u v : Bool) → (not (p && u) || (q || v)) ≡ ((not p || q) || (not u || v))
      go true true true v = refl
      go true true false v = refl
      go true false true v = refl
      go true false false v = refl
      go false true u v = refl
      go false false u v = refl
  output_one false x seen rest = ap (λ s. not (within rest ks) || again s rest) (sym (append-nil seen))

  outputs_bad : (n i : ℕ) → a ≤ i
      → (not (within (gather output n i) ks) || again (gather output (i - a) a) (gather output n i))
      ≡ any_in (bad_output_at kinds args ks a) n i
  unfolding gather any_in within again
  outputs_bad zero i h = refl
  outputs_bad (suc n) i h =
      let more : gather output (i - a) a ++ output i ≡ gather output (suc i - a) a =
      sym (gather_more output a i h) ∙ ap (λ (m : ℕ). gather output (m - a) a) (add-one i) in
      output_one (eqb (get_or kinds i 0) kind_output) (get_or args i 0) (gather output (i - a) a)
      (gather output n (suc i)) ∙ ap (λ b. bad_output_at kinds args ks a i || b)
      (ap (λ s. not (within (gather output n (suc i)) ks) || again s (gather output n (suc i))) more
      ∙ outputs_bad n (suc i) (omega arith))

  -- THE HEADER is wrong exactly if one of its places is
  pub header_places : (n : ℕ) → head_wrong (gather output n a) ks ≡ any_in (bad_output_at kinds args ks a) n a
  unfolding gather
  header_places n =
      let z : a - a ≡ 0 = omega arith in
      let e : gather output (a - a) a ≡ [] = ap (λ (m : ℕ). gather output m a) z in
      rw e at (outputs_bad n a (omega arith))
