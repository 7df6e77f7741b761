use Rattle.tokens.specs.Bytes.{is_space}
use Rattle.tokens.proofs.bytes.past_spaces.Given as goal

abbrev pub ghost-run_end : goal.ghost-run_end
ghost-run_end a =
    is_space
