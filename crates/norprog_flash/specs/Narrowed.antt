-- A job of just the bytes that are to change (this project's).
use Rattle.std.specs.Prelude.{◌≡◌, ◌<◌, ◌≤◌, ℕ, List, [], length, Some, None, slice_index, slice_range}
use Rattle.nor_hex.specs.Image.{Pairs}
use Rattle.nor_hex.specs.Union.{HasJust}
use Rattle.nor_job.specs.Task.{Task}

-- the task with this image from address 0 on, and all addresses chosen
abbrev pub narrowed : Task → Pairs → Task
narrowed t image = record t { hex = []; image = Some image; layout = None; regions = []; base = 0 }

-- an image gives what is wanted from one address up to another, and outside of these nothing is to change
pub record SpansDifference (have want : List ℕ) (image : Pairs) : Type 0 where
  pub low : ℕ
  pub high : ℕ
  pub order : low ≤ high
  pub within : high ≤ length want
  pub just : HasJust low (slice_range want low high) image
  pub before : (a : ℕ) → a < low → slice_index have a ≡ slice_index want a
  pub after : (a : ℕ) → high ≤ a → slice_index have a ≡ slice_index want a
