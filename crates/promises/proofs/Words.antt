-- Numbers and names: every number of every text has its own value, and two names have one key exactly if they are one.
use Prim.Native.Nat.{ℕ, ◌^◌, ◌<◌}
use mathlib.Core.Path.{◌≡◌}
use mathlib.Core.Bool.{true}
use mathlib.Core.List.{List, Memᴰ}
use mathlib.Core.Logic.{◌↔◌}
use lib.Ieee.{Float}
use Rattle.limits.specs.Limits.{name_bytes}
use Rattle.tokens.specs.Number.{in_range}
use Rattle.tokens.specs.Symbol.{number, name, key_of, symbol_named}
use Rattle.tokens.specs.Row.{row_of}
use Rattle.tokens.specs.Values.{RoundedOnce, NumberAt, Name}
use Rattle.tokens.proofs.TokenValues as lower

-- A VALUE IN RANGE is rounded once, from exact operands, and finite
pub rounded_once : (m up down : ℕ) → in_range m up down ≡ true → RoundedOnce m up down
rounded_once = lower.rounded_once

-- EVERY NUMBER of every row of tokens has the value of its own bytes
pub row_values : (s : List ℕ) (at : ℕ) (x : Float) → Memᴰ (record { symbol = number x; at = at }) (row_of s).tokens
    → NumberAt s at x
row_values = lower.row_values

-- TWO NAMES of at most six characters have the same key exactly if they are the same name
pub key_iff : (x y : List ℕ) → Name x → Name y → (key_of x ≡ key_of y) ↔ (x ≡ y)
key_iff = lower.key_iff

-- so have name tokens, which are no reserved words
pub name_iff : (x y : List ℕ) (j k : ℕ) → Name x → Name y → symbol_named x ≡ name j → symbol_named y ≡ name k
    → (j ≡ k) ↔ (x ≡ y)
name_iff = lower.name_iff

-- and a key has at most six bytes
pub key_small : (x : List ℕ) → Name x → key_of x < 256 ^ name_bytes
key_small = lower.key_small
