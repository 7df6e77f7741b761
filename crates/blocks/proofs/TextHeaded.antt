-- The headers of a text name at least one output each: the grammar asks for it.
use Prim.Native.Nat.{ℕ, ◌<◌}
use mathlib.Core.Path.{◌≡◌, refl}
use mathlib.Core.Bool.{Bool}
use mathlib.Core.List.{List, [], ◌∷◌, map}
use native.Mathlib.Omega.{arith}
use lib.ListN.{length}
use Rattle.laws.specs.Lists.{concat_map}
use Rattle.deck.specs.Lines.{Line, lines_of}
use Rattle.deck.specs.Reading.{Statement, cards_of, fresh, reading}
use Rattle.deck.specs.Reports.{report}
use Rattle.deck.specs.Joined.{joined}
use Rattle.deck.specs.Faults.{Flaw, none, flaw, size_flaw}
use Rattle.deck.specs.declared.Place.{Place}
use Rattle.deck.specs.declared.Spot.{Spot}
use Rattle.tokens.specs.Symbol.{Symbol}
use Rattle.tokens.specs.Row.{Placed, Close, all_good, bad, row_of, symbols}
use Rattle.drafts.specs.Tree.{Says}
use Rattle.grammar.specs.Grammar.{Names, one_name, more_names, Derives, of_constants, of_assignment, of_state}
use Rattle.grammar.specs.Grammar.{of_header}
use Rattle.grammar.specs.Grammar.{of_ending}
use Rattle.grammar.specs.Parser.{Read, read, fault, read_row}
use Rattle.grammar.proofs.Accepts.{accepts}
use Rattle.sheet.specs.Sheet.{Told, says, faulty, said}
use Rattle.sheet.specs.Reader.{parsed, scanned, sized, cards_told, spotted, told, sheet_of}
use Rattle.blocks.specs.Pairing.{HeadedBy, Headed}

-- names are one or more
names_some : {w : List Symbol} {ks : List ℕ} → Names w ks → 0 < length ks
names_some one_name = omega arith
names_some (more_names n) = omega arith

-- so a header that is derived has outputs
derived_headed : {d : ℕ} {w : List Symbol} (x : Says) → Derives d w x → HeadedBy x
derived_headed x (of_constants e m) = tt
derived_headed x (of_assignment e) = tt
derived_headed x (of_state i e) = tt
derived_headed x (of_header k os is) = names_some os
derived_headed x of_ending = tt

-- what is told of a statement
abbrev ToldHeaded : {P : Type 0} → Told P → Type 0
ToldHeaded (says x) = HeadedBy x
ToldHeaded (faulty c p) = Unit {0}

-- by the grammar, by the tokens, by the size
parsed_headed : (ps : List Placed) (r : Read) → read_row (symbols ps) ≡ r → ToldHeaded (parsed ps r)
parsed_headed ps (read x) e = derived_headed x ((accepts (symbols ps) x).0 e)
parsed_headed ps (fault c i) e = tt

scanned_headed : (ps : List Placed) (c : Close) → ToldHeaded (scanned ps c)
scanned_headed ps all_good = parsed_headed ps (read_row (symbols ps)) refl
scanned_headed ps (bad c at) = tt

sized_headed : (f : Flaw) (s : List ℕ) → ToldHeaded (sized f s)
sized_headed none s = scanned_headed (row_of s).tokens (row_of s).close
sized_headed (flaw c p) s = tt

cards_headed : (cards : List Line) (closed : Bool) → ToldHeaded (cards_told cards closed)
unfolding cards_told
cards_headed cards closed = sized_headed (size_flaw cards closed) (joined cards)

spotted_headed : (ls : List Line) (t : Told Place) → ToldHeaded t → ToldHeaded (spotted ls t)
spotted_headed ls (says x) h = h
spotted_headed ls (faulty c p) h = tt

told_headed : (lines : List Line) (closed : Bool) → ToldHeaded (told lines closed)
unfolding told
told_headed lines closed =
    spotted_headed lines (cards_told (cards_of lines) closed) (cards_headed (cards_of lines) closed)

-- of all statements
reports_headed : (ss : List Statement) → Headed (said (map (report told) ss))
unfolding concat_map
reports_headed [] = tt
reports_headed (s ∷ ss) =
    go (told s.lines s.closed) (told_headed s.lines s.closed) (reports_headed ss)
  where
    go : (t : Told Spot) → ToldHeaded t → Headed (said (map (report told) ss))
        → Headed (said (record { line = s.first; what = t } ∷ map (report told) ss))
    go (says x) h r = (h, r)
    go (faulty c p) h r = r

-- THE STATEMENTS of a text are headed
pub text_headed : (text : List ℕ) → Headed (said (sheet_of text))
unfolding sheet_of
text_headed text = reports_headed (reading fresh 1 (lines_of text))
