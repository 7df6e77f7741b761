-- The kinds by which code holds tokens: of a number, of a name, of each role of reserved words. A mark's kind is its
-- byte, which is above those.
use Rattle.std.specs.Prelude.{ℕ, ◌+◌, List, [], ◌∷◌, length}
use Rattle.tokens.specs.Symbol.{Role, CONSTANTS, INTGRL, TIME, INSW, LIMIT, COMPAR, PROCED, ENDPRO}

abbrev pub number_kind : ℕ
number_kind = 1

abbrev pub name_kind : ℕ
name_kind = 2

-- the roles in the order of their kinds, which stand behind a name's
abbrev pub roles : List Role
roles = CONSTANTS ∷ INTGRL ∷ TIME ∷ INSW ∷ LIMIT ∷ COMPAR ∷ PROCED ∷ ENDPRO ∷ []

-- the kind of a word by its role
abbrev pub word_kind : Role → ℕ
word_kind CONSTANTS = 3
word_kind INTGRL = 4
word_kind TIME = 5
word_kind INSW = 6
word_kind LIMIT = 7
word_kind COMPAR = 8
word_kind PROCED = 9
word_kind ENDPRO = 10

-- that of the last role
abbrev pub last_word_kind : ℕ
last_word_kind = name_kind + length roles
