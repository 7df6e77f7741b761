-- A digit is the first of the run from here; behind the last there is none.
use Rattle.std.proofs.Common.{◌+◌, ◌≡◌, refl, sym, ap, ◌∙◌, true, false, ◌∷◌, get_or, arith, rules}
use Rattle.laws.proofs.Runs.{run_len, run_end, run_more, run_stop}
use Rattle.tokens.specs.Bytes.{is_digit, digits_at}
use Rattle.tokens.proofs.Decimals.{decimal_more, decimal_stop}
use Rattle.tokens.proofs.number.digits.Goals as goal

pub loop-behind-preserved : goal.loop-behind-preserved
loop-behind-preserved c =
    let s = c.args.body.now in
    let now = c.loop-behind in
    let digit : is_digit (get_or s now.end 0) ≡ true = search rules in
    let more = run_more is_digit s now.end refl digit
    ∙ ap (λ b. b ∷ digits_at s (now.end + 1)) (sym now.invariant.here) in
    record {
      ends = sym (run_len is_digit s now.end refl digit) ∙ now.invariant.ends;
      reads = decimal_more _ _ _ _ _ c.with_digit-value.ensures more ∙ now.invariant.reads;
      capped = omega (arith, c.with_digit-value.ensures);
      here = c.byte_at-behind-in-loop-behind.ensures;
    }

pub returns : goal.returns
returns c =
    let s = c.args.body.now in
    let now = c.loop-behind in
    let other : is_digit (get_or s now.end 0) ≡ false = search rules in
    let end = sym (run_end is_digit s now.end other) ∙ now.invariant.ends in
    let stop = run_stop is_digit s now.end other in
    let value = decimal_stop now.value _ now.invariant.capped stop ∙ now.invariant.reads in
    let behind = now.invariant.here ∙ ap (λ i. get_or s i 0) end in
    λ k. record { value = value k; end = end k; behind = behind k }
