-- Modes and fences have one number each.
use Rattle.std.specs.Prelude.{◌≡◌, ℕ, ◌≤◌, refl}
use Rattle.std.proofs.Common.{arith}
use Rattle.languages.specs.declared.action.ReadMode.{ReadMode}
use Rattle.languages.specs.declared.action.ReadMode.TheVariants as read
use Rattle.languages.specs.declared.action.WriteMode.{WriteMode}
use Rattle.languages.specs.declared.action.WriteMode.TheVariants as write
use Rattle.languages.specs.declared.action.FenceKind.{FenceKind}
use Rattle.languages.specs.declared.action.FenceKind.TheVariants as fence
use Rattle.languages.specs.Modes.{read_mode, read_number, write_mode, write_number, fence_kind, fence_number}

pub same_read_mode : (o : ReadMode) → read_mode (read_number o) ≡ o
same_read_mode read.Relaxed = refl
same_read_mode read.Acquire = refl

pub same_write_mode : (o : WriteMode) → write_mode (write_number o) ≡ o
same_write_mode write.Relaxed = refl
same_write_mode write.Release = refl

pub same_fence_kind : (o : FenceKind) → fence_kind (fence_number o) ≡ o
same_fence_kind fence.Acquire = refl
same_fence_kind fence.Release = refl
same_fence_kind fence.Both = refl
same_fence_kind fence.Sequential = refl

pub read_back : (v : ℕ) → v ≤ 1 → read_number (read_mode v) ≡ v
read_back v h = grind arith

pub write_back : (v : ℕ) → v ≤ 1 → write_number (write_mode v) ≡ v
write_back v h = grind arith

pub fence_back : (v : ℕ) → v ≤ 3 → fence_number (fence_kind v) ≡ v
fence_back v h = grind arith
