-- The kinds of drafts, each named once, and the tests of what a kind is for. Kinds 1 to 15 are those of the records
-- that are written.
use Rattle.std.specs.Prelude.{ℕ, Bool, cond, ◌&&◌, ◌||◌, eqb, leb}
use Rattle.drafts.specs.Tree.{Two, plus, minus, times, over, compar, Three, insw, limit}

-- ---- what is set before the equations: a constant's name, an initial's state

abbrev pub kind_constant : ℕ
kind_constant = 1

abbrev pub kind_initial : ℕ
kind_initial = 2

-- behind each of these its value: the bits of a number, or the name of the constant that the initial is
abbrev pub kind_number : ℕ
kind_number = 0

abbrev pub kind_from : ℕ
kind_from = 16

-- ---- an expression in postfix: push a value, push what a name holds, push TIME, the operations

abbrev pub kind_push : ℕ
kind_push = 3

abbrev pub kind_fetch : ℕ
kind_fetch = 4

abbrev pub kind_clock : ℕ
kind_clock = 17

abbrev pub kind_two : Two → ℕ
kind_two plus = 5
kind_two minus = 6
kind_two times = 7
kind_two over = 8
kind_two compar = 12

abbrev pub kind_negate : ℕ
kind_negate = 9

abbrev pub kind_three : Three → ℕ
kind_three insw = 10
kind_three limit = 11

-- ---- what is done with its value: stored to a name, taken as the derivative of a state

abbrev pub kind_store : ℕ
kind_store = 13

abbrev pub kind_rate : ℕ
kind_rate = 14

-- ---- of a block. Inside: stored to a name that is set above; the first time to an output, or to a name of the block's
-- own; push what a name holds, where it is not asked for

abbrev pub kind_again : ℕ
kind_again = 15

abbrev pub kind_given : ℕ
kind_given = 18

abbrev pub kind_own : ℕ
kind_own = 19

abbrev pub kind_read : ℕ
kind_read = 20

-- its header's outputs and inputs, and its end

abbrev pub kind_output : ℕ
kind_output = 21

abbrev pub kind_input : ℕ
kind_input = 22

abbrev pub kind_ending : ℕ
kind_ending = 23

-- ---- what a kind is for

-- those that define their name: constant, initial, store, and the first settings in a block
abbrev pub defines : ℕ → Bool
defines k = eqb k kind_constant || (eqb k kind_initial || (eqb k kind_store || (eqb k kind_given || eqb k kind_own)))

-- those that use what assigns their name: a name in an expression, an input
abbrev pub is_use : ℕ → Bool
is_use k = eqb k kind_fetch || eqb k kind_input

-- those that ask for a name that must be defined: these, and a name as initial
abbrev pub asks : ℕ → Bool
asks k = is_use k || eqb k kind_from

-- those whose argument is a name's key
abbrev pub is_named : ℕ → Bool
is_named k =
    defines k
    || (asks k || (eqb k kind_rate || (eqb k kind_again || (eqb k kind_read || eqb k kind_output))))

-- those that close a unit of the order: store, rate, a block's end
abbrev pub closes : ℕ → Bool
closes k = eqb k kind_store || (eqb k kind_rate || eqb k kind_ending)

-- those of an expression's operations, and of what is done with its value: a record has their argument as its slot
abbrev pub is_step : ℕ → Bool
is_step k = (leb kind_fetch k && leb k kind_again) || (leb kind_given k && leb k kind_read)

-- the kind of that record: their own, but for the first settings in a block and for what is read there
abbrev pub step_kind : ℕ → ℕ
step_kind k = cond (eqb k kind_given || eqb k kind_own) kind_store (cond (eqb k kind_read) kind_fetch k)

-- those that write a record: all but a value behind a constant or an initial, a header's names and an end
abbrev pub writes : ℕ → Bool
writes k = (leb kind_constant k && leb k kind_again) || (leb kind_clock k && leb k kind_read)
