-- What the code meets: its answers and buffers, by what the parser reads and writes.
use Rattle.std.specs.Prelude.{ℕ, ◌+◌, ◌-◌, ◌≤◌, ◌<◌, ◌≡◌, cond, ◌&&◌, List, [], ◌∷◌, map, length, get_or, set, drop}
use Rattle.std.specs.Prelude.{eqb, leb}
use Rattle.std.specs.Prelude.{Option, Some, None, Result, Ok, Err}
use Rattle.std.proofs.lemmas.List.Edits.{sets}
use Rattle.std.specs.Float.{binary64}
use Rattle.std.specs.Float.Ieee.{to_bits}
use Rattle.limits.specs.Limits.{levels}
use Rattle.tokens.specs.Symbol.{Symbol}
use Rattle.tokens.specs.Held.{held_row}
use Rattle.grammar.specs.declared.row.Row.{Row}
use Rattle.grammar.specs.declared.output.Output.{Output}
use Rattle.grammar.specs.declared.forms.Value.{Value}
use Rattle.faults.specs.declared.Fault.TheVariants.{Ungrammatical}
use Rattle.faults.specs.Codes.{code_of}
use Rattle.grammar.specs.declared.Misread.{Misread}
use Rattle.grammar.specs.declared.ParseError.{ParseError}
use Rattle.grammar.specs.declared.ParseError.TheVariants.{NoRoom as TooShort, Misread as Misreads}
use Rattle.drafts.specs.Kinds.{kind_number}
use Rattle.drafts.specs.Drafts.{Draft, draft, initial_draft}
use Rattle.grammar.specs.Grammar.{Mode}
use Rattle.grammar.specs.Parser.{End, got, bad, Res, reads, by_signed_number, many, initially, many_names, entire}
use Rattle.grammar.specs.Parser.{calls, Read, read, fault, read_row}

-- an answer and the two buffers
pub record ParseOutcome (R : Type 0) : Type 0 where
  pub reply : R
  pub kinds : List ℕ
  pub args : List ℕ

abbrev pub parse_outcome : {R : Type 0} → R → List ℕ → List ℕ → ParseOutcome R
parse_outcome r l u = record { reply = r; kinds = l; args = u }

-- these drafts stand from place p on
unfoldable pub wrote : {R : Type 0} → R → List Draft → ℕ → List ℕ → List ℕ → ParseOutcome R
wrote r o p l u = parse_outcome r (sets l p (map (λ (x : Draft). x.kind) o)) (sets u p (map (λ (x : Draft). x.arg) o))

-- the draft that an operator writes, if there is one
abbrev pub op_drafts : Option ℕ → List Draft
op_drafts None = []
op_drafts (Some k) = draft k 0 ∷ []

-- what a draft of the kind k with the argument a at place p makes, and what an operator's makes; p' is the place behind
pub record Puts (k a p : ℕ) (l u : List ℕ) (p' : ℕ) (l' u' : List ℕ) : Type 0 where
  pub place : p' ≡ p + 1
  pub kinds : l' ≡ set l p k
  pub args : u' ≡ set u p a

pub record PutsOp (k : Option ℕ) (p : ℕ) (l u : List ℕ) (p' : ℕ) (l' u' : List ℕ) : Type 0 where
  pub place : p' ≡ p + length (op_drafts k)
  pub kinds : l' ≡ sets l p (map (λ (x : Draft). x.kind) (op_drafts k))
  pub args : u' ≡ sets u p (map (λ (x : Draft). x.arg) (op_drafts k))

-- `emit` and `emit_op` give so
abbrev pub Emits : ℕ → ℕ → Output → Output → Type 0
Emits k a o o' = Puts k a o.place o.kinds.now o.args.now o'.place o'.kinds.now o'.args.now

abbrev pub EmitsOp : Option ℕ → Output → Output → Type 0
EmitsOp k o o' = PutsOp k o.place o.kinds.now o.args.now o'.place o'.kinds.now o'.args.now

-- what is written goes to the same buffers
pub record SameBuffers (o o' : Output) : Type 0 where
  pub kinds : o'.kinds.ghost_name ≡ o.kinds.ghost_name
  pub args : o'.args.ghost_name ≡ o.args.ghost_name

-- ---- the entry

-- the place behind the drafts; the fault's code and its token's place; or a buffer is too short
pub data Parsed : Type 0 where
  Done : ℕ → Parsed
  Fault : ℕ → ℕ → Parsed
  NoRoom : Parsed

-- the answer says it so
abbrev pub parsed_in : Result ℕ ParseError → Parsed
parsed_in (Ok q) = Done q
parsed_in (Err TooShort) = NoRoom
parsed_in (Err (Misreads m)) = Fault (code_of m.fault) m.at

-- of a row
abbrev pub parsed_as : ℕ → Read → Parsed
parsed_as q (read x) = Done q
parsed_as q (fault c i) = Fault c i

-- the row that kinds and arguments hold, its answer and its drafts; a fault's drafts too
abbrev pub row_wrote : List Symbol → ℕ → List ℕ → List ℕ → ParseOutcome Parsed
row_wrote row p l u =
    let o = (entire (calls row) levels row).out in
    wrote (parsed_as (p + length o) (read_row row)) o p l u

-- where the arguments are not as many as the kinds, or a buffer has no room for as many drafts as there are tokens,
-- nothing is written
unfoldable pub row_outcome : List ℕ → List ℕ → List ℕ → List ℕ → ℕ → ParseOutcome Parsed
row_outcome ks us l u p =
    cond (eqb (length us) (length ks) && (leb (p + length ks) (length l) && leb (p + length ks) (length u)))
    (row_wrote (held_row ks us) p l u)
    (parse_outcome NoRoom l u)

-- `parse_row`: the answer r and the buffers l' and u' are those of the row
abbrev pub ParsesRow : List ℕ → List ℕ → List ℕ → List ℕ → ℕ → Result ℕ ParseError → List ℕ → List ℕ → Type 0
ParsesRow ks us l u p r l' u' = parse_outcome (parsed_in r) l' u' ≡ row_outcome ks us l u p

-- ---- the parts, each from a place of the row on

-- what a call asks: as many arguments as kinds, a place within, and room for a draft for each token that is left
pub record Ready (ks us : List ℕ) (i p : ℕ) (l u : List ℕ) : Type 0 where
  pub even : length us ≡ length ks
  pub within : i ≤ length ks
  pub room_kinds : p + (length ks - i) ≤ length l
  pub room_args : p + (length ks - i) ≤ length u

-- the same where nothing is written
pub record Within (ks us : List ℕ) (i : ℕ) : Type 0 where
  pub even : length us ≡ length ks
  pub within : i ≤ length ks

-- how reading a part ends: the code 0, and the places of the next token and of the next draft; or a fault's code, its
-- token's place, and 0
pub record Ended : Type 0 where
  pub code : ℕ
  pub next : ℕ
  pub place : ℕ

-- a part that is done, with the places of the next token and of the next draft; and one that stops with the code c
-- at the token's place i
abbrev pub part_done : ℕ → ℕ → Ended
part_done i q = record { code = 0; next = i; place = q }

abbrev pub part_stopped : ℕ → ℕ → Ended
part_stopped c i = record { code = c; next = i; place = 0 }

abbrev pub stopped_by : Misread → Ended
stopped_by m = part_stopped (code_of m.fault) m.at

-- the answer and the place of the next draft say it so
abbrev pub ended_in : Result ℕ Misread → ℕ → Ended
ended_in (Ok i) q = part_done i q
ended_in (Err m) q = stopped_by m

-- how reading ends, by places among n tokens, with the place q of the next draft
abbrev pub part_of : {A : Type 0} → ℕ → ℕ → End A → Ended
part_of n q (got e t) = part_done (n - length t) q
part_of n q (bad c t) = part_stopped c (n - length t)

abbrev pub part_wrote : {A : Type 0} → ℕ → Res A → ℕ → List ℕ → List ℕ → ParseOutcome Ended
part_wrote n x p l u = wrote (part_of n (p + length x.out) x.end) x.out p l u

-- what it gives: the answer and the buffers are those of the reader x at place i
pub record Meets {A : Type 0} (ks us : List ℕ) (x : List Symbol → Res A) (i p : ℕ) (l u : List ℕ) (r : Ended)
    (l' u' : List ℕ) : Type 0 where
  pub same : parse_outcome r l' u' ≡ part_wrote (length ks) (x (drop i (held_row ks us))) p l u

-- what a member of the cycle gives, in its mode and with d levels still allowed
pub record Parses (ks us : List ℕ) (m : Mode) (d i p : ℕ) (l u : List ℕ) (r : Ended) (l' u' : List ℕ) : Type 0 where
  pub meets : Meets ks us (reads m d) i p l u r l' u'

-- what the constants from place i on give, at every count of calls that suffices
pub record ParsesMany (ks us : List ℕ) (i p : ℕ) (l u : List ℕ) (r : Ended) (l' u' : List ℕ) : Type 0 where
  pub meets : (f : ℕ) → length ks - i < f → Meets ks us (many f) i p l u r l' u'

-- what the names from place i on give, each with a draft of the kind k, at every count of calls that suffices
pub record ParsesNames (ks us : List ℕ) (k i p : ℕ) (l u : List ℕ) (r : Ended) (l' u' : List ℕ) : Type 0 where
  pub meets : (f : ℕ) → length ks - i < f → Meets ks us (many_names k f) i p l u r l' u'

-- ---- the same of the row and the output that the code passes

abbrev pub calls_for : Row → ℕ
calls_for w = calls (held_row w.kinds.now w.args.now)

abbrev pub ReadyAt : Row → ℕ → Output → Type 0
ReadyAt w i o = Ready w.kinds.now w.args.now i o.place o.kinds.now o.args.now

abbrev pub Reads : {A : Type 0} → Row → (List Symbol → Res A) → ℕ → Output → Result ℕ Misread → Output → Type 0
Reads w x i o r o' =
    Meets w.kinds.now w.args.now x i o.place o.kinds.now o.args.now (ended_in r o'.place) o'.kinds.now o'.args.now

abbrev pub ReadsPart : Row → Mode → ℕ → ℕ → Output → Result ℕ Misread → Output → Type 0
ReadsPart w m d i o r o' =
    Parses w.kinds.now w.args.now m d i o.place o.kinds.now o.args.now (ended_in r o'.place) o'.kinds.now o'.args.now

abbrev pub ReadsMany : Row → ℕ → Output → Result ℕ Misread → Output → Type 0
ReadsMany w i o r o' =
    ParsesMany w.kinds.now w.args.now i o.place o.kinds.now o.args.now (ended_in r o'.place) o'.kinds.now o'.args.now

abbrev pub ReadsNames : Row → ℕ → ℕ → Output → Result ℕ Misread → Output → Type 0
ReadsNames w k i o r o' =
    ParsesNames w.kinds.now w.args.now k i o.place o.kinds.now o.args.now (ended_in r o'.place) o'.kinds.now o'.args.now

-- ---- a token that is needed, and values

-- what `need` gives: the place behind the token at place i, where its kind is b; or the grammar's fault there
abbrev pub ungrammatical : ℕ → Misread
ungrammatical i = record { fault = Ungrammatical; at = i }

abbrev pub Needs : List ℕ → ℕ → ℕ → Result ℕ Misread → Type 0
Needs ks i b (Ok j) = (get_or ks i 0 ≡ b) × (j ≡ i + 1)
Needs ks i b (Err m) = (get_or ks i 0 ≡ b → ⊥) × (m ≡ ungrammatical i)

-- what writes nothing itself: the draft of what was read, and the place behind it; or the code of the fault where it is
-- missing, and that place
pub data EndedValue : Type 0 where
  Found : ℕ → ℕ → ℕ → EndedValue
  Missing : ℕ → ℕ → EndedValue

-- the answer says it so
abbrev pub ended_value_in : Result Value Misread → EndedValue
ended_value_in (Ok v) = Found v.kind v.arg v.next
ended_value_in (Err m) = Missing (code_of m.fault) m.at

abbrev pub value_read : {A : Type 0} → (A → Draft) → ℕ → End A → EndedValue
value_read f n (got e t) = let x : Draft = f e in Found x.kind x.arg (n - length t)
value_read f n (bad c t) = Missing c (n - length t)

abbrev pub number_at : List ℕ → List ℕ → ℕ → EndedValue
number_at ks us i =
    value_read (λ x. draft kind_number (to_bits binary64 x)) (length ks)
    (by_signed_number (drop i (held_row ks us))).end

abbrev pub initial_at : List ℕ → List ℕ → ℕ → EndedValue
initial_at ks us i = value_read initial_draft (length ks) (initially (drop i (held_row ks us))).end
