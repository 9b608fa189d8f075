-- A run of word loads as a list of stores. It only names what the rules' lists of a block, a tile's row and a TLUT share.
use Rattle.std.specs.Prelude.{false, List, ℕ, ◌+◌, ◌*◌, ◌/◌, ◌≤◌}
use Rattle.rules.specs.Base.{tab, concat}
use Rattle.rules.specs.Load.{Store, LoadTile, word_stores, word_columns}
use Rattle.tmem.specs.declared.words.Run.{Run}
use Rattle.tmem.specs.declared.words.WordAt.{WordAt}
use Rattle.tmem.specs.Part.{place_of}

-- the run's numbers are those of some load
pub record Paced (r : Run) : Type 0 where
  pub columns_in : r.columns ≤ 64
  pub row_in : r.row + r.dxt ≤ 4095
  pub place_in : r.place ≤ 1023 * 65535
  pub advance_in : r.advance ≤ 8

-- the run of an image's words, which stand one after the other in the source
abbrev pub image_run : ℕ → ℕ → ℕ → ℕ → Run
image_run image row dxt place =
    record { columns = word_columns image; row = row; dxt = dxt; place = place; advance = 8; replicate = false }

-- where word w of the run stands
abbrev pub word_at : Run → ℕ → WordAt
word_at r w = record { s = w * r.columns; t = r.row + w * r.dxt / 2048; source = r.place + w * r.advance }

-- its stores
abbrev pub run_word : LoadTile → Run → ℕ → List Store
run_word t r w = word_stores t (word_at r w).s (word_at r w).t (place_of (word_at r w).source r.replicate)

unfoldable pub run_stores : LoadTile → Run → ℕ → List Store
run_stores t r words = concat (tab words (run_word t r))
