-- All four numbers are read from the list.
use Rattle.listing_text.proofs.put_fault_line.Goals as goal

pub put_row-requires : goal.put_row-requires
put_row-requires c =
    rw (c.low_at-column.ensures, c.low_at-place.ensures, c.low_at-code.ensures, c.low_at-line.ensures)
    c.requires.1

pub returns : goal.returns
returns c =
    rw (
      ← c.low_at-column.ensures,
      ← c.low_at-place.ensures,
      ← c.low_at-code.ensures,
      ← c.low_at-line.ensures,
    )
    c.put_row.ensures
