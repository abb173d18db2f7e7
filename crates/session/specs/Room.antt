-- Room for answers in an output: nine bytes for each byte of a line, its newline included.
use Rattle.std.specs.Prelude.{ℕ, ◌+◌, ◌*◌, List, length, Some, None, Option}
use Rattle.text.specs.declared.reader.Item.{Item}
use Rattle.text.specs.Cut.{Line, joined_lines}
use Rattle.text.specs.Seen.{held}
use Rattle.session.specs.Saying.{bytes_of}

-- as many bytes as the answer to an item has at most, if there is an item
abbrev pub room_for : Option Item → ℕ
room_for None = 0
room_for (Some item) = 9 * (length (bytes_of (held item)) + 1)

-- as many bytes as the answers to lines have at most
abbrev pub room_for_all : List Line → ℕ
room_for_all lines = 9 * length (joined_lines lines)
