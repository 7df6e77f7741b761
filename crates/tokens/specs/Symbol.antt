-- What the grammar sees of a token: a mark, a number, a name that is not reserved, or the role of a reserved word.
use Rattle.std.specs.Prelude.{ℕ, List, [], ◌∷◌, cond, Float}
use Prim.Native.String.{String}
use Rattle.laws.specs.Text.{bytes}
use Rattle.laws.specs.Lists.{same_bytes}
use Rattle.bits.specs.Low.{low_word}

-- what a reserved word is to the grammar, where words of one role are the same. CONSTANTS is that of the words before
-- constants; each of the others has the name of a word
pub data Role : Type 0 where
  CONSTANTS INTGRL TIME INSW LIMIT COMPAR PROCED ENDPRO : Role

-- a reserved word: its bytes and its role
pub record Reserved : Type 0 where
  pub spelling : List ℕ
  pub role : Role

abbrev pub spelled : String → Role → Reserved
spelled s r = record { spelling = bytes s; role = r }

-- the list of them
abbrev pub reserved : List Reserved
reserved =
    spelled "CONST" CONSTANTS
    ∷ spelled "PARAM" CONSTANTS
    ∷ spelled "INCON" CONSTANTS
    ∷ spelled "INTGRL" INTGRL
    ∷ spelled "TIME" TIME
    ∷ spelled "INSW" INSW
    ∷ spelled "LIMIT" LIMIT
    ∷ spelled "COMPAR" COMPAR
    ∷ spelled "PROCED" PROCED
    ∷ spelled "ENDPRO" ENDPRO
    ∷ []

-- f of the role of the word that bytes spell, compared byte by byte with each of a list of words; another where they
-- spell none
unfoldable pub look_up : {A : Type 0} → (Role → A) → A → List Reserved → List ℕ → A
look_up f other [] n = other
look_up f other (r ∷ rs) n = cond (same_bytes n r.spelling) (f r.role) (look_up f other rs n)

-- a mark by its byte, a number by its value, a name by its key, a reserved word by its role
pub data Symbol : Type 0 where
  mark : ℕ → Symbol
  number : Float → Symbol
  name : ℕ → Symbol
  word : Role → Symbol

-- a name's key: its bytes packed into a number, the first one lowest. Names of one key are one name (law
-- `key_injective`)
abbrev pub key_of : List ℕ → ℕ
key_of n = low_word n

-- a name token's bytes: the reserved word that they spell, by its role, or a name
unfoldable pub symbol_named : List ℕ → Symbol
symbol_named n = look_up word (name (key_of n)) reserved n
