-- The line ends where the bytes before the next byte 10 do.
use Rattle.std.proofs.Common.{◌≡◌, ◌+◌, ◌-◌, length, take, drop, refl, ap, arith}
use Rattle.deck.proofs.Cutting.{line_at}
use Rattle.deck.proofs.lines.LinesIterator.next.Goals as goal

pub returns-clause-steps : goal.returns-clause-steps
returns-clause-steps c =
    let self = c.args.self.now in
    let line = line_at self.text.now self.at c.line_end-end.result c.if-self-start.false c.line_end-end.ensures.value in
    (refl, (line.0, omega (arith, line.1)))

pub returns-clause-goes : goal.returns-clause-goes
returns-clause-goes c =
    let self = c.args.self.now in
    let line = line_at self.text.now self.at c.line_end-end.result c.if-self-start.false c.line_end-end.ensures.value in
    let here = take (c.line_end-end.result - self.at) (drop self.at self.text.now) in
    let behind : c.line_end-end.result + 1 ≡ self.at + length here + 1 = omega (arith, line.1) in
    record { on = λ _. (tt, tt, rw behind (omega (arith, ap length line.0.lines))); keeps = tt; rests = λ _. tt }
