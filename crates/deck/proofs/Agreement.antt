-- Any two outcomes that the contract of an open entry allows are equal.
use Prim.Native.Nat.{ℕ}
use mathlib.Core.Path.{sym, ◌∙◌}
use mathlib.Core.Bool.{Bool}
use mathlib.Core.List.{List}
use Rattle.laws.specs.Agree.{Agree, Agree2}
use Rattle.faults.proofs.Apart.{codes_apart}
use Rattle.deck.specs.declared.Cursor.{Cursor}
use Rattle.deck.specs.declared.Place.{Place}
use Rattle.deck.specs.Contract.{FindsNext, CountsLines, FaultsSize, Joins, FindsSpot}

pub next_statement : (text : List ℕ) (c : Cursor) → Agree (FindsNext text c)
next_statement text c r s p q = p.0 ∙ sym q.0

pub line_count : (text : List ℕ) → Agree (CountsLines text)
line_count text r s p q = p ∙ sym q

pub size_fault : (cards : ℕ) (closed long : Bool) → Agree (FaultsSize cards closed long)
size_fault cards closed long r s p q = codes_apart r s (p ∙ sym q)

pub join : (text : List ℕ) (start lines : ℕ) (out : List ℕ) → Agree2 (Joins text start lines out)
join text start lines out r s a b p q = (p.0 ∙ sym q.0, p.1 ∙ sym q.1)

pub find_spot : (text : List ℕ) (start lines : ℕ) (place : Place) → Agree (FindsSpot text start lines place)
find_spot text start lines place r s p q = p ∙ sym q
