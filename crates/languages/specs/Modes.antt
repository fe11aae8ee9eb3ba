-- The numbers of modes and fences.
use Rattle.std.specs.Prelude.{ℕ, if◌then◌else◌, ◌==◌}
use Rattle.languages.specs.declared.action.ReadMode.{ReadMode}
use Rattle.languages.specs.declared.action.ReadMode.TheVariants as read
use Rattle.languages.specs.declared.action.WriteMode.{WriteMode}
use Rattle.languages.specs.declared.action.WriteMode.TheVariants as write
use Rattle.languages.specs.declared.action.FenceKind.{FenceKind}
use Rattle.languages.specs.declared.action.FenceKind.TheVariants as fence

abbrev pub read_mode : ℕ → ReadMode
read_mode v = if v == 0 then read.Relaxed else read.Acquire

abbrev pub read_number : ReadMode → ℕ
read_number read.Relaxed = 0
read_number read.Acquire = 1

abbrev pub write_mode : ℕ → WriteMode
write_mode v = if v == 0 then write.Relaxed else write.Release

abbrev pub write_number : WriteMode → ℕ
write_number write.Relaxed = 0
write_number write.Release = 1

abbrev pub fence_kind : ℕ → FenceKind
fence_kind v = if v == 0 then fence.Acquire else if v == 1 then fence.Release else if v == 2 then fence.Both else fence.Sequential

abbrev pub fence_number : FenceKind → ℕ
fence_number fence.Acquire = 0
fence_number fence.Release = 1
fence_number fence.Both = 2
fence_number fence.Sequential = 3
