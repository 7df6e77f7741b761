use Rattle.tokens.proofs.Cuts.{name_long, name_fine}
use Rattle.tokens.proofs.name.read_name.Goals as goal

pub returns-then-n-gt-NAME_BYTES : goal.returns-then-n-gt-NAME_BYTES
returns-then-n-gt-NAME_BYTES c =
    rw c.bad.ensures (name_long _ _ _ c.name_bytes-n.ensures c.if-n-gt-NAME_BYTES.true)

pub returns : goal.returns
returns c =
    name_fine _ _ _ c.name_bytes-n.ensures c.if-n-gt-NAME_BYTES.false
