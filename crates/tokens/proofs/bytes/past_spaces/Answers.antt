-- The first byte is looked at before the run, as most tokens follow one another directly.
use Rattle.std.proofs.Common.{◌≡◌, ℕ, true, false, List, refl, sym, ◌∙◌}
use borrow.Author.Tests.{eq-eqb, ne_eqb}
use lib.ListN.{get_or}
use Rattle.laws.proofs.Runs.{inside, run_len, run_end}
use Rattle.tokens.specs.Bytes.{is_space}
use Rattle.tokens.proofs.bytes.past_spaces.Goals as goal

-- what a byte that was read says of the text
yes : (s : List ℕ) (i b : ℕ) → b ≡ get_or s i 0 → b ≡ 32 → is_space (get_or s i 0) ≡ true
yes s i b e t = eq-eqb _ 32 (sym e ∙ t)

no : (s : List ℕ) (i b : ℕ) → b ≡ get_or s i 0 → (b ≡ 32 → ⊥) → is_space (get_or s i 0) ≡ false
no s i b e t = ne_eqb _ 32 (λ f. t (e ∙ f))

pub returns-then-byte_at-ne32 : goal.returns-then-byte_at-ne32
returns-then-byte_at-ne32 c =
    let a = c.args in
    sym
    (run_end is_space a.body.now a.from
    (no a.body.now a.from c.byte_at.result c.byte_at.ensures c.if-byte_at-ne32.true))

pub returns : goal.returns
returns c =
    let a = c.args in
    let first = yes a.body.now a.from c.byte_at.result c.byte_at.ensures c.if-byte_at-ne32.false in
    c.run_end.ensures ∙ sym (run_len is_space a.body.now a.from refl first)
