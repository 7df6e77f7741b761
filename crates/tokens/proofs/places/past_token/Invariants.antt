use Rattle.tokens.specs.Bytes.{is_word}
use Rattle.tokens.proofs.places.past_token.Given as goal

abbrev pub ghost-run_end : goal.ghost-run_end
ghost-run_end a =
    is_word
