-- Names (document 01, 'The text of a module' and 'The file').
use Rattle.std.specs.Prelude.{Bool, false, ◌&&◌, not, List, [], ◌∷◌, ℕ, ltb, length}
use Rattle.codec.specs.Codecs.{Codec}
use Rattle.codec.specs.Numbers.{byte}
use Rattle.codec.specs.Views.{check}
use Rattle.codec.specs.Lists.{list}
use Rattle.model.specs.Bytes.{place_in}
use Rattle.model.specs.Rooms.{name_room}
use Rattle.text.specs.Words.{within, letter, word_byte, keywords}
use Rattle.file.specs.Parts.{all_in}

-- starts with a letter or `_` and goes on with letters, `_` and digits
unfoldable pub name_bytes : List ℕ → Bool
name_bytes [] = false
name_bytes (b ∷ bs) = letter b && all_in word_byte bs

-- whether a word is a keyword
unfoldable pub is_keyword : List ℕ → Bool
is_keyword w = ltb (place_in keywords 0 w) (length keywords)

-- Keywords are never names.
unfoldable pub good_name : List ℕ → Bool
good_name w = name_bytes w && not (is_keyword w)

-- Strings: length byte, bytes. The length, 1 to 32, is judged before the bytes; either is 23.
unfoldable pub name : Codec (List ℕ)
name = check (list (check byte 23 (within 1 name_room)) byte) 23 good_name
