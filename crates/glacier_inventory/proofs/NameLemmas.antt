-- Names and descriptions are ASCII.
use Rattle.std.proofs.Common.{ℕ, ◌<◌, Bool, List, [], ◌∷◌, arith}
use Rattle.std.specs.Prelude.{IsAscii, IsTrue}
use Rattle.std.specs.List.{list_all}
use Rattle.std.proofs.lemmas.Bool.{and_parts}
use Rattle.std.proofs.lemmas.Grind.{common_steps}
use Rattle.std.proofs.lemmas.Str.Ascii.{IsAscii-nil, IsAscii-cons}
use Rattle.glacier_base.specs.Names.{is_name_byte, is_vault_name, is_digit, is_account, is_region_byte, is_region, is_printable, is_description}

-- a text of bytes that pass a test which no other than ASCII passes
pub ascii_by : (test : ℕ → Bool) → ((b : ℕ) → IsTrue (test b) → b < 128) → (bytes : List ℕ)
    → IsTrue (list_all test bytes) → IsAscii bytes
ascii_by test small [] all = IsAscii-nil
ascii_by test small (b ∷ bytes) all =
    let both = and_parts (test b) (list_all test bytes) all in
    IsAscii-cons b bytes (small b both.0) (ascii_by test small bytes both.1)

small_name : (b : ℕ) → IsTrue (is_name_byte b) → b < 128
small_name b h = grind (arith, common_steps)

small_digit : (b : ℕ) → IsTrue (is_digit b) → b < 128
small_digit b h = grind (arith, common_steps)

small_region : (b : ℕ) → IsTrue (is_region_byte b) → b < 128
small_region b h = grind (arith, common_steps)

pub name_is_ascii : (name : List ℕ) → IsTrue (is_vault_name name) → IsAscii name
name_is_ascii name h =
    let front = (and_parts _ _ (and_parts _ _ h).0).0 in
    ascii_by is_name_byte small_name name (and_parts _ _ front).1

pub account_is_ascii : (account : List ℕ) → IsTrue (is_account account) → IsAscii account
account_is_ascii account h = ascii_by is_digit small_digit account (and_parts _ _ h).1

pub region_is_ascii : (region : List ℕ) → IsTrue (is_region region) → IsAscii region
region_is_ascii region h = ascii_by is_region_byte small_region region (and_parts _ _ h).1

small_printable : (b : ℕ) → IsTrue (is_printable b) → b < 128
small_printable b h = grind (arith, common_steps)

pub description_is_ascii : (description : List ℕ) → IsTrue (is_description description) → IsAscii description
description_is_ascii description h = ascii_by is_printable small_printable description (and_parts _ _ h).1
