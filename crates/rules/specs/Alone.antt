-- How a thread steps by itself, as a relation over any numbers.
use Rattle.std.specs.Prelude.{◌≡◌, ℕ, ◌<◌, ◌≤◌, List, [], ◌∷◌, ◌++◌, Some, None, Option, ◌≢◌}
use Rattle.lines.specs.declared.span.Span.{Span}
use Rattle.lines.specs.declared.trace.Line.{Line}
use Rattle.lines.specs.declared.trace.Line.TheVariants.{Next as N, Read as R, Write as W, Update as U, Keep as H}
use Rattle.languages.specs.declared.action.Action.TheVariants.{Silent, Write, Update, Fence, Print}
use Rattle.languages.specs.declared.action.ReadMode.{ReadMode}
use Rattle.languages.specs.declared.action.WriteMode.{WriteMode}
use Rattle.languages.specs.declared.action.WriteMode.TheVariants.{Relaxed, Release}
use Rattle.languages.specs.declared.action.FenceKind.TheVariants.{Acquire as AcquireFence, Release as ReleaseFence, Both, Sequential}
use Rattle.languages.specs.declared.action.Taking.TheVariants.{OnlyRead, Replaced}
use Rattle.languages.specs.Behaviours.{Behaviour, after}
use Rattle.stores.specs.declared.view.View.{View}
use Rattle.stores.specs.declared.message.Message.{Message}
use Rattle.stores.specs.Views.{at, join}
use Rattle.stores.specs.StoreLaws.{In, Free}
use Rattle.rules.specs.Models.{Views, Thread}
use Rattle.rules.specs.Threads.{next_of, reads, read_views, write_views, update_views, written, updated_message, acquire_views, release_views, both_views, all_views, marked}

-- a thread by itself: what it does, its views, and the promises that it owes
pub record Lone : Type 0 where
  pub does : Behaviour
  pub views : Views
  pub owed : List Message

-- a thread of a run, in the run's memory
abbrev pub lone : Thread → List Message → Lone
lone k ms = record { does = k.does; views = k.views; owed = marked k.owed ms }

abbrev pub OwesNothing : Lone → Type 0
OwesNothing k = k.owed ≡ []

abbrev pub OwesNothingAt : ℕ → Lone → Type 0
OwesNothingAt x k = (m : Message) → In m k.owed → m.location ≢ x

-- the thread after going on with v, with these views
abbrev pub went_on : Lone → ℕ → Views → Lone
went_on k v vs = record { does = after k.does v; views = vs; owed = k.owed }

-- the thread after keeping a promise at x that ends at t, with these promises left
abbrev pub kept : Lone → ℕ → ℕ → List Message → Lone
kept k x t left = record { does = after k.does 0; views = write_views Relaxed x t k.views; owed = left }

-- f is strictly above the closing line of x, where there is one
abbrev pub Above : Option View → ℕ → ℕ → Type 0
Above None x f = Unit {0}
Above (Some line) x f = at line x < f

-- the span from the end of m up to t
abbrev pub onward : Message → ℕ → Span
onward m t = record { from = m.span.to; to = t }

-- one step of the thread k, on l locations, with the view S and the memory M: by which line, and thread, S and memory after it
pub data Alone (l : ℕ) (closing : Option View) (k : Lone) (S : View) (M : List Message) : Line → Lone → View → List Message → Type 0 where
  silent : next_of l k.does ≡ Silent → Alone l closing k S M N (went_on k 0 k.views) S M
  acquire_fence : next_of l k.does ≡ Fence AcquireFence → Alone l closing k S M N (went_on k 0 (acquire_views k.views)) S M
  release_fence : next_of l k.does ≡ Fence ReleaseFence → OwesNothing k
      → Alone l closing k S M N (went_on k 0 (release_views k.views)) S M
  both_fence : next_of l k.does ≡ Fence Both → OwesNothing k
      → Alone l closing k S M N (went_on k 0 (both_views k.views)) S M
  sequential_fence : next_of l k.does ≡ Fence Sequential → OwesNothing k
      → Alone l closing k S M N (went_on k 0 (all_views (join S k.views.acq))) (join S k.views.acq) M
  print : (v : ℕ) → next_of l k.does ≡ Print v → OwesNothing k
      → Alone l closing k S M N (went_on k 0 k.views) S M
  -- a read, or an update that only reads
  read : (o : ReadMode) (m : Message)
      → reads (next_of l k.does) ≡ Some (m.location, o)
      → In m M → at k.views.cur m.location ≤ m.span.to
      → (k.does []).takes m.value ≡ OnlyRead
      → Alone l closing k S M (R m.span.to) (went_on k m.value (read_views o m.location m.span.to m.view k.views)) S M
  write : (x v : ℕ) (o : WriteMode) (s : Span)
      → next_of l k.does ≡ Write x v o
      → (o ≡ Release → OwesNothingAt x k)
      → at k.views.cur x < s.to → s.from < s.to → Free x s M → Above closing x s.from
      → Alone l closing k S M (W s) (went_on k 0 (write_views o x s.to k.views)) S
      (M ++ (written x v s (write_views o x s.to k.views) ∷ []))
  -- reads m, and writes from its end up to t
  update : (o : ReadMode) (w : WriteMode) (m : Message) (v t : ℕ)
      → next_of l k.does ≡ Update m.location o w
      → (w ≡ Release → OwesNothingAt m.location k)
      → In m M → at k.views.cur m.location ≤ m.span.to
      → (k.does []).takes m.value ≡ Replaced v
      → m.span.to < t → Free m.location (onward m t) M → Above closing m.location m.span.to
      → Alone l closing k S M (U (onward m t)) (went_on k m.value (update_views o w m.location (onward m t) m.view k.views)) S
      (M ++ (updated_message m.location v (onward m t) m.view (update_views o w m.location (onward m t) m.view k.views) ∷ []))
  -- a relaxed write of a promised message
  keep : (m : Message) (before later : List Message)
      → next_of l k.does ≡ Write m.location m.value Relaxed
      → k.owed ≡ before ++ (m ∷ later)
      → at k.views.cur m.location < m.span.to
      → Alone l closing k S M (H m.span.to) (kept k m.location m.span.to (before ++ later)) S M

-- steps, one after another
pub data Steps (l : ℕ) (closing : Option View) (k : Lone) (S : View) (M : List Message) : Lone → View → List Message → Type 0 where
  done : Steps l closing k S M k S M
  then : {k₁ k₂ : Lone} {S₁ S₂ : View} {M₁ M₂ : List Message} {line : Line}
      → Steps l closing k S M k₁ S₁ M₁ → Alone l closing k₁ S₁ M₁ line k₂ S₂ M₂ → Steps l closing k S M k₂ S₂ M₂

-- every message of the first is one of the second
abbrev pub Within : List Message → List Message → Type 0
Within ms ns = (m : Message) → In m ms → In m ns

-- by itself, from S and the memory M, with no closing line, the thread can come to owe nothing
abbrev pub CanKeep : ℕ → Lone → View → List Message → Type 0
CanKeep l k S M = (k' : Lone) × (S' : View) × (M' : List Message) × Steps l None k S M k' S' M' × OwesNothing k'
