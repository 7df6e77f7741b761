-- The digits of the first, a space, the digits of the second, a space, and the line of the other two.
use mathlib.Core.List.{[], ◌∷◌, ◌++◌}
use Rattle.laws.proofs.Puts.{put_both}
use Rattle.listing_text.specs.Listing.{figures, line2}
use Rattle.listing_text.proofs.Reach.{reach_first, reach_second}
use Rattle.listing_text.proofs.put_row.Goals as goal

pub put_figures-gap-requires : goal.put_figures-gap-requires
put_figures-gap-requires c =
    let a = c.args in
    reach_first (figures a.k) (32 ∷ (figures a.l ++ (32 ∷ line2 a.m a.n))) a.at c.requires

pub put_byte-second-requires : goal.put_byte-second-requires
put_byte-second-requires c =
    let a = c.args in
    let rest = 32 ∷ line2 a.m a.n in
    let first = reach_second c.put_figures-gap.ensures (32 ∷ (figures a.l ++ rest)) c.requires in
    reach_first (32 ∷ []) (figures a.l ++ rest) _ first

pub put_figures-next-requires : goal.put_figures-next-requires
put_figures-next-requires c =
    let a = c.args in
    let rest = 32 ∷ line2 a.m a.n in
    let first = reach_second c.put_figures-gap.ensures (32 ∷ (figures a.l ++ rest)) c.requires in
    let gap = reach_second c.put_byte-second.ensures (figures a.l ++ rest) first in
    reach_first (figures a.l) rest _ gap

pub put_byte-third-requires : goal.put_byte-third-requires
put_byte-third-requires c =
    let a = c.args in
    let rest = 32 ∷ line2 a.m a.n in
    let first = reach_second c.put_figures-gap.ensures (32 ∷ (figures a.l ++ rest)) c.requires in
    let gap = reach_second c.put_byte-second.ensures (figures a.l ++ rest) first in
    let second = reach_second c.put_figures-next.ensures rest gap in
    reach_first (32 ∷ []) (line2 a.m a.n) _ second

pub put_pair-requires : goal.put_pair-requires
put_pair-requires c =
    let a = c.args in
    let rest = 32 ∷ line2 a.m a.n in
    let first = reach_second c.put_figures-gap.ensures (32 ∷ (figures a.l ++ rest)) c.requires in
    let gap = reach_second c.put_byte-second.ensures (figures a.l ++ rest) first in
    let second = reach_second c.put_figures-next.ensures rest gap in
    reach_second c.put_byte-third.ensures (line2 a.m a.n) second

pub returns : goal.returns
returns c =
    put_both c.put_figures-gap.ensures
    (put_both c.put_byte-second.ensures
    (put_both c.put_figures-next.ensures (put_both c.put_byte-third.ensures c.put_pair.ensures)))
