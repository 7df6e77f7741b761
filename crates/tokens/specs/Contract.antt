-- What the open entries promise: a token, and the row of a text with the content of both buffers.
use Rattle.std.specs.Prelude.{ℕ, ◌≡◌, Bool, ◌&&◌, cond, List, map, leb, length, Result, Ok, Err}
use Rattle.faults.specs.Codes.{code_of}
use Rattle.std.proofs.lemmas.List.Edits.{sets}
use Rattle.tokens.specs.declared.Cut.{Cut}
use Rattle.tokens.specs.declared.RowError.{RowError}
use Rattle.tokens.specs.declared.RowError.TheVariants.{NoRoom, Bad}
use Rattle.tokens.specs.Token.{cut_at}
use Rattle.tokens.specs.Held.{symbol_kind, arg_of}
use Rattle.tokens.specs.Row.{Close, all_good, bad, Row, row_of, symbols}
use Rattle.tokens.specs.Skips.{place_behind}

-- `take_cut`: the next token from a place on, its place, and where the next one begins
abbrev pub TakesCut : List ℕ → ℕ → Cut → Type 0
TakesCut body from r = r ≡ cut_at body from

-- ---- a row

-- how a row ends: no room for it; the count of its tokens; or the first bad token's code, how many good ones stand
-- before it, and its place
pub data RowEnd : Type 0 where
  no_room : RowEnd
  tokens : ℕ → RowEnd
  fault : ℕ → ℕ → ℕ → RowEnd

-- the answer says it so
abbrev pub end_in : Result ℕ RowError → RowEnd
end_in (Ok n) = tokens n
end_in (Err NoRoom) = no_room
end_in (Err (Bad f n at)) = fault (code_of f) n at

-- of a row of n tokens
abbrev pub close_end : Close → ℕ → RowEnd
close_end all_good n = tokens n
close_end (bad code at) n = fault code n at

abbrev pub row_end : Row → RowEnd
row_end r = close_end r.close (length r.tokens)

-- the kinds and the arguments of a row's tokens
abbrev pub kinds_of : Row → List ℕ
kinds_of r = map symbol_kind (symbols r.tokens)

abbrev pub args_of : Row → List ℕ
args_of r = map arg_of (symbols r.tokens)

-- there is a place for each byte of the text
abbrev pub row_roomy : List ℕ → List ℕ → List ℕ → Bool
row_roomy s ks us = leb (length s) (length ks) && leb (length s) (length us)

-- `row`: from the text s and the buffers ks and us the answer r and the buffers ks' and us'; without room nothing is
-- written
pub record WritesRow (s ks us : List ℕ) (r : Result ℕ RowError) (ks' us' : List ℕ) : Type 0 where
  pub answer : end_in r ≡ cond (row_roomy s ks us) (row_end (row_of s)) no_room
  pub kinds : ks' ≡ cond (row_roomy s ks us) (sets ks 0 (kinds_of (row_of s))) ks
  pub args : us' ≡ cond (row_roomy s ks us) (sets us 0 (args_of (row_of s))) us

-- `token_place`: where the token behind i others begins; of a row without bad token, the place of its token i (law
-- `place_of_token`)
abbrev pub PlacesToken : List ℕ → ℕ → ℕ → Type 0
PlacesToken body i r = r ≡ place_behind i body 0
