-- What a comparison adds to a tally. Counting stops at 10,001, so that no count runs over.
use Rattle.std.specs.Prelude.{ℕ, ◌+◌, Bool, true, false, cond, ltb}
use Rattle.tally.specs.declared.Tally.{Tally}

abbrev pub most : ℕ
most = 10000

-- one comparison more; one more that differs, unless it is the same
abbrev pub one_more : Tally → Bool → Tally
one_more t true = record { tried = t.tried + 1; differ = t.differ }
one_more t false = record { tried = t.tried + 1; differ = t.differ + 1 }

abbrev pub counted : Tally → Bool → Tally
counted t same = cond (ltb most t.tried) t (cond (ltb most t.differ) t (one_more t same))
