-- `grammar::parse_row` meets its contract.
use Rattle.std.proofs.Common.{rules, arith, sym, ◌∙◌}
use Rattle.std.proofs.lemmas.Result.{err_from_is_err_and}
use Rattle.grammar.proofs.Entry.{moved, uneven, no_kinds, no_args, entry_stopped, entry_done, entry_more}
use Rattle.grammar.proofs.parse_row.Goals as goal
use Rattle.grammar.proofs.parse_row.Goals.{then-args-n-via-then-args-n, then-args-n-via-else-args-n+then-lacks}
use Rattle.grammar.proofs.parse_row.Goals.{then-args-n-via-else-args-n+else-lacks+then-lacks-2}

pub returns-then-args-n : goal.returns-then-args-n
returns-then-args-n c =
    let ks = c.args.kinds.now in
    let us = c.args.args.now in
    let p = c.args.place in
    let l = c.args.out_kinds.now in
    let u = c.args.out_args.now in
    elim c.then-args-n.branch [
      | then-args-n-via-then-args-n w ↦ uneven ks us p l u w.if-args-n.true
      | then-args-n-via-else-args-n+then-lacks w ↦
          no_kinds ks us p l u w.if-args-n.false (sym w.if-lacks.true ∙ w.lacks.ensures)
      | then-args-n-via-else-args-n+else-lacks+then-lacks-2 w ↦
          no_args ks us p l u w.if-args-n.false (sym w.if-lacks.false ∙ w.lacks.ensures)
          (sym w.if-lacks-2.true ∙ w.lacks-else-lacks.ensures)
    ]

pub returns-in_err-next : goal.returns-in_err-next
returns-in_err-next c =
    let p = err_from_is_err_and c.from_residual.result c.from_residual.ensures.1 in
    rw (p.1, p.2)
    (moved (search rules) (search rules)
    (entry_stopped c.args.kinds.now c.args.args.now c.args.place c.args.out_kinds.now c.args.out_args.now
    c.if-args-n.false (sym c.if-lacks.false ∙ c.lacks.ensures) (sym c.if-lacks-2.false ∙ c.lacks-else-lacks.ensures)
    c.in_err-next.field-0.0 c.in_err-next.ensures.reads))

pub returns-then-next-n : goal.returns-then-next-n
returns-then-next-n c =
    moved (search rules) (search rules)
    (entry_more c.args.kinds.now c.args.args.now c.args.place c.args.out_kinds.now c.args.out_args.now
    c.if-args-n.false (sym c.if-lacks.false ∙ c.lacks.ensures) (sym c.if-lacks-2.false ∙ c.lacks-else-lacks.ensures)
    c.in_ok-next.ensures.reads c.if-next-n.true)

pub returns : goal.returns
returns c =
    moved (search rules) (search rules)
    (entry_done c.args.kinds.now c.args.args.now c.args.place c.args.out_kinds.now c.args.out_args.now
    c.if-args-n.false (sym c.if-lacks.false ∙ c.lacks.ensures) (sym c.if-lacks-2.false ∙ c.lacks-else-lacks.ensures)
    c.in_ok-next.ensures.reads (omega arith))
