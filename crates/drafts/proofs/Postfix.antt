-- An expression's drafts are those of its items.
use mathlib.Core.Path.{◌≡◌, refl}
use mathlib.Core.List.{map, map-append}
use Rattle.drafts.specs.Tree.{Tree, value, named, time, negated, two, three}
use Rattle.drafts.specs.Items.{postfix}
use Rattle.drafts.specs.Drafts.{draft_item, drafted}

pub drafted_items : (e : Tree) → drafted e ≡ map draft_item (postfix e)
unfolding drafted postfix
drafted_items (value x) = refl
drafted_items (named k) = refl
drafted_items time = refl
drafted_items (negated a) = rw (map-append draft_item (postfix a), drafted_items a)
drafted_items (two o a b) =
    rw (map-append draft_item (postfix a), map-append draft_item (postfix b), drafted_items a, drafted_items b)
drafted_items (three o a b c) =
    rw (
      map-append draft_item (postfix a),
      map-append draft_item (postfix b),
      map-append draft_item (postfix c),
      drafted_items a,
      drafted_items b,
      drafted_items c,
    )
