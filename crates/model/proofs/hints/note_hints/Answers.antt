-- The hints and links of the keys from the last down to the present one are noted.
use mathlib.Core.Path.{refl}
use Rattle.model.proofs.KeysFound.{hinting_first, hinting_next}
use Rattle.model.proofs.hints.note_hints.Goals as goal

pub loop-d-init : goal.loop-d-init
loop-d-init c =
    hinting_first c.args.keys.now c.requires.1 c.requires.2

pub loop-d-preserved : goal.loop-d-preserved
loop-d-preserved c =
    let bucket = c.bucket-b.ensures in
    hinting_next c.loop-d.invariant c.loop-d-test.true bucket.0 bucket.1 refl refl refl
