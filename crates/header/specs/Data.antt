-- The data of an item, as a part of the header (01, "File header").
-- Assumes nothing.
use Rattle.std.specs.Prelude.{List, ℕ, take, drop}
use Rattle.header.specs.Items.{items, start_of, size_of}

-- the data of the last item with the id; no bytes if there is none
unfoldable pub data_of : ℕ → List ℕ → List ℕ
data_of id s = take (size_of (items s) id) (drop (start_of (items s) id) s)
