-- What the grammar gives of every statement holds of each statement of a text that has no fault.
use Prim.Native.Nat.{ℕ}
use mathlib.Core.Path.{◌≡◌, refl}
use mathlib.Core.Bool.{Bool}
use mathlib.Core.List.{List}
use Rattle.laws.specs.Every.{Every}
use Rattle.laws.proofs.Every.{every_all, every_concat, every_mapped}
use Rattle.limits.specs.Limits.{levels}
use Rattle.deck.specs.Lines.{Line, lines_of}
use Rattle.deck.specs.Reading.{Statement, cards_of, fresh, reading}
use Rattle.deck.specs.Reports.{Report, report}
use Rattle.deck.specs.Joined.{joined}
use Rattle.deck.specs.Faults.{Flaw, none, flaw, size_flaw}
use Rattle.deck.specs.declared.Spot.{Spot}
use Rattle.tokens.specs.Row.{Close, all_good, bad, row_of, symbols}
use Rattle.drafts.specs.Tree.{Says}
use Rattle.grammar.specs.Grammar.{Derives}
use Rattle.grammar.specs.Parser.{read_row}
use Rattle.grammar.proofs.Endings.{clash}
use Rattle.grammar.proofs.Accepts.{accepts}
use Rattle.sheet.specs.Sheet.{Told, says, faulty, Numbered, said_by, said}
use Rattle.sheet.specs.Reader.{scanned, sized, cards_told, told, sheet_of}
use Rattle.sheet.proofs.StatementMeans.{parsed_says, told_says}

module _ (P : Says → Type 0) (derived : (s : List ℕ) (x : Says) → Derives levels (symbols (row_of s).tokens) x → P x)
  where
    -- by the tokens
    scanned_so : (s : List ℕ) (c : Close) (x : Says) → scanned (row_of s).tokens c ≡ says x → P x
    scanned_so s all_good x e =
        let ps = (row_of s).tokens in
        derived s x ((accepts (symbols ps) x).0 (parsed_says ps (read_row (symbols ps)) x e))
    scanned_so s (bad c at) x e = clash (cc)

    -- by the size
    sized_so : (f : Flaw) (s : List ℕ) (x : Says) → sized f s ≡ says x → P x
    sized_so none s x e = scanned_so s (row_of s).close x e
    sized_so (flaw c p) s x e = clash (cc)

    -- by the lines
    told_so : (lines : List Line) (closed : Bool) (x : Says) → told lines closed ≡ says x → P x
    unfolding cards_told
    told_so lines closed x e =
        let cards = cards_of lines in
        sized_so (size_flaw cards closed) (joined cards) x (told_says lines closed x e)

    -- what is told in a report
    abbrev Reported : Report (Told Spot) → Type 0
    Reported r = (x : Says) → r.what ≡ says x → P x

    said_so : (l : ℕ) (t : Told Spot) → ((x : Says) → t ≡ says x → P x)
        → Every (λ (s : Numbered). P s.says) (said_by l t)
    said_so l (says x) f = (f x refl, tt)
    said_so l (faulty c p) f = tt

    -- EACH STATEMENT of a text
    pub each_said : (text : List ℕ) → Every (λ (s : Numbered). P s.says) (said (sheet_of text))
    unfolding sheet_of
    each_said text =
        every_concat Reported (λ (s : Numbered). P s.says)
        (λ (r : Report (Told Spot)). said_by r.line r.what) (λ r f. said_so r.line r.what f) (sheet_of text)
        (every_mapped (λ (s : Statement). Unit {0}) Reported (report told)
        (λ s _ x e. told_so s.lines s.closed x e) (reading fresh 1 (lines_of text))
        (every_all (λ (s : Statement). Unit {0}) (λ s. tt) (reading fresh 1 (lines_of text))))
