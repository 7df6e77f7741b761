-- The settings of a sheet that is laid out: the drafts that define a name.
use Prim.Native.Nat.{ℕ}
use mathlib.Core.Path.{◌≡◌, refl, sym, ap, ap₂, ◌∙◌}
use mathlib.Core.Bool.{Bool, false}
use mathlib.Core.List.{List, [], ◌∷◌, ◌++◌, map, append-nil}
use lib.ListN.{length, get_or, length-map}
use Rattle.laws.specs.Lists.{concat_map}
use Rattle.laws.specs.Places.{gather, only_if}
use Rattle.laws.proofs.Concats.{concat_concat, concat_same}
use Rattle.laws.proofs.Along.{gather_all}
use Rattle.drafts.specs.Tree.{plus, minus, times, over, compar, insw, limit, plain, from, Says, constants, assignment}
use Rattle.drafts.specs.Tree.{state, header, ending}
use Rattle.drafts.specs.Items.{Item, push, fetch, clock, negate, apply_two, apply_three, postfix}
use Rattle.drafts.specs.Kinds.{kind_output, kind_input, kind_store, kind_rate, defines}
use Rattle.drafts.specs.Drafts.{Draft, draft, draft_item, drafts_of}
use Rattle.sheet.specs.Sheet.{Numbered}
use Rattle.sheet.specs.Layout.{drafts_in, draft_kinds, draft_args, Laid}
use Rattle.blocks.specs.Members.{settings_by, settings}
use Rattle.blocks.specs.Places.{defining_in}
use Rattle.blocks.proofs.DraftsWalk.{no_draft, kind_at, arg_at}
use Rattle.blocks.proofs.DefiningCounted.{as_many}

-- the key that a draft defines
abbrev pub key_defined : Draft → List ℕ
key_defined d = only_if (defines d.kind) d.arg

-- an item defines none
item_none : (x : Item) → key_defined (draft_item x) ≡ []
item_none (push x) = refl
item_none (fetch k) = refl
item_none clock = refl
item_none negate = refl
item_none (apply_two plus) = refl
item_none (apply_two minus) = refl
item_none (apply_two times) = refl
item_none (apply_two over) = refl
item_none (apply_two compar) = refl
item_none (apply_three insw) = refl
item_none (apply_three limit) = refl

-- so of an expression with one draft behind it only that one counts
items_none : (xs : List Item) (z : Draft) → concat_map key_defined (map draft_item xs ++ (z ∷ [])) ≡ key_defined z
unfolding concat_map
items_none [] z = append-nil (key_defined z)
items_none (x ∷ xs) z = ap₂ ◌++◌ (item_none x) (items_none xs z)

-- a header's names
names_none : (k : ℕ) → defines k ≡ false → (l : List ℕ) (r : List Draft)
    → concat_map key_defined (map (draft k) l ++ r) ≡ concat_map key_defined r
unfolding concat_map
names_none k e [] r = refl
names_none k e (a ∷ l) r = rw e (names_none k e l r)

-- THE KEYS that a statement's drafts define
pub settings_drafts : (x : Says) → concat_map key_defined (drafts_of x) ≡ settings_by x
unfolding concat_map
settings_drafts (constants []) = refl
settings_drafts (constants (c ∷ cs)) = ap (◌∷◌ c.key) (settings_drafts (constants cs))
settings_drafts (assignment k e) = items_none (postfix e) (draft kind_store k)
settings_drafts (state k (plain x) e) = ap (◌∷◌ k) (items_none (postfix e) (draft kind_rate k))
settings_drafts (state k (from c) e) = ap (◌∷◌ k) (items_none (postfix e) (draft kind_rate k))
settings_drafts (header os is) =
    names_none kind_output refl os (map (draft kind_input) is)
    ∙ ap (concat_map key_defined) (sym (append-nil (map (draft kind_input) is))) ∙ names_none kind_input refl is []
settings_drafts ending = refl

-- THE COUNT of verdict 6
pub settings_counted : {ss : List Numbered} {kinds args lines bounds : List ℕ} → Laid ss kinds args lines bounds
    → length (defining_in kinds) ≡ length (settings ss)
unfolding defining_in
settings_counted {ss} {kinds} {args} v =
    let test : ℕ → Bool = λ j. defines (get_or kinds j 0) in
    as_many test test (λ j. j) (λ j. get_or args j 0) (length kinds) 0 0 (λ m h. refl) ∙ ap length keys
  where
    keys : gather (λ j. only_if (defines (get_or kinds j 0)) (get_or args j 0)) (length kinds) 0 ≡ settings ss
    keys =
        rw (v.kinds_held, v.args_held, length-map (drafts_in ss) (λ (d : Draft). d.kind))
        (gather_all (λ j. only_if (defines (get_or (draft_kinds (drafts_in ss)) j 0))
        (get_or (draft_args (drafts_in ss)) j 0))
        key_defined no_draft (drafts_in ss) (λ i. rw (kind_at (drafts_in ss) i, arg_at (drafts_in ss) i))
        ∙ concat_concat key_defined (λ (s : Numbered). drafts_of s.says) ss
        ∙ concat_same (λ (s : Numbered). concat_map key_defined (drafts_of s.says))
        (λ (s : Numbered). settings_by s.says) (λ (s : Numbered). settings_drafts s.says) ss)
