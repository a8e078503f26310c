-- A name is a text.
use Rattle.std.proofs.Common.{ℕ, ◌<◌, List, arith, rules}
use Rattle.std.specs.Prelude.{IsUtf8}
use Rattle.std.proofs.lemmas.Str.{IsUtf8-from_ascii}
use Rattle.std.proofs.lemmas.Str.Ascii.{IsAscii-from_all}
use Rattle.kit_rules.specs.Names.{IsNameByte, IsName}

-- a byte of a name is ASCII
byte_is_ascii : (b : ℕ) → IsNameByte b → b < 128
byte_is_ascii b is = search (arith, rules)

-- and so a name is UTF-8
pub name_is_text : (s : List ℕ) → IsName s → IsUtf8 s
name_is_text s is = IsUtf8-from_ascii s (IsAscii-from_all s (λ k d lt. byte_is_ascii _ (is.bytes k d lt)))
