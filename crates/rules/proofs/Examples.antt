-- Each small run is played by computation.
use Rattle.std.proofs.Common.{◌≡◌, take, drop, refl}
use Rattle.lines.specs.declared.layer.Layer.TheVariants as part
use Rattle.rules.specs.Examples.{two, buffer, fenced_trace, fenced_end, promiser, copier, buffered_trace, buffered_end, own_promise_read, LoadBuffering, OutOfThinAir, OwnPromiseRead, UpdatesClash, UpdatesFollow, MessagePassing, MessagePassingRelaxed, MessagePassingFenced, StoreBufferingFenced, AtTheClosingLine, AboveTheClosingLine, ReleaseFence, BothFences, PromiseAcquired, UpdateBetween, RelaxedWrite, PromiseUnfenced, ExchangeFails, AcquireUpdate, ReleaseUpdate, FenceBetween, SequentialWrite, OutsideRead}
use Rattle.rules.proofs.Played.{then_goes, goes, accepted, stopped, ending, next_refused, started, accepts, refuses}

pub load_buffering : LoadBuffering
load_buffering = accepts (two (promiser 0 1) copier) buffered_trace 16 buffered_end refl computed
  where
    computed : ending (then_goes (started (two (promiser 0 1) copier)) (λ r. goes r buffered_trace)) ≡ accepted buffered_end
    computed = refl

pub thin_air : OutOfThinAir
thin_air = refuses _ _ _ _ _ _ refl refl

pub own_promise : OwnPromiseRead
own_promise = refuses (two (promiser 1 1) copier) buffered_trace 14 own_promise_read 11 part.Step refl computed
  where
    computed : next_refused (drop 14 buffered_trace) (then_goes (started (two (promiser 1 1) copier)) (λ r. goes r (take 14 buffered_trace)))
        ≡ stopped own_promise_read 11 part.Step
    computed = refl

pub updates_clash : UpdatesClash
updates_clash = refuses _ _ _ _ _ _ refl refl

pub updates_follow : UpdatesFollow
updates_follow = accepts _ _ _ _ refl refl

pub message_passing : MessagePassing
message_passing = refuses _ _ _ _ _ _ refl refl

pub relaxed : MessagePassingRelaxed
relaxed = accepts _ _ _ _ refl refl

pub fenced : MessagePassingFenced
fenced = refuses _ _ _ _ _ _ refl refl

pub store_buffering : StoreBufferingFenced
store_buffering = refuses (two (buffer 0 1) (buffer 1 0)) fenced_trace 10 fenced_end 11 part.Step refl computed
  where
    computed : next_refused (drop 10 fenced_trace) (then_goes (started (two (buffer 0 1) (buffer 1 0))) (λ r. goes r (take 10 fenced_trace)))
        ≡ stopped fenced_end 11 part.Step
    computed = refl

pub at_the_line : AtTheClosingLine
at_the_line = refuses _ _ _ _ _ _ refl refl

pub above_the_line : AboveTheClosingLine
above_the_line = accepts _ _ _ _ refl refl

pub release_fence : ReleaseFence
release_fence = refuses _ _ _ _ _ _ refl refl

pub both_fences : BothFences
both_fences = refuses _ _ _ _ _ _ refl refl

pub promise_acquired : PromiseAcquired
promise_acquired = refuses _ _ _ _ _ _ refl refl

pub update_between : UpdateBetween
update_between = refuses _ _ _ _ _ _ refl refl

pub exchange_fails : ExchangeFails
exchange_fails = refuses _ _ _ _ _ _ refl refl

pub relaxed_write : RelaxedWrite
relaxed_write = accepts _ _ _ _ refl refl

pub promise_unfenced : PromiseUnfenced
promise_unfenced = accepts _ _ _ _ refl refl

pub acquire_update : AcquireUpdate
acquire_update = refuses _ _ _ _ _ _ refl refl

pub release_update : ReleaseUpdate
release_update = refuses _ _ _ _ _ _ refl refl

pub fence_between : FenceBetween
fence_between = refuses _ _ _ _ _ _ refl refl

pub sequential_write : SequentialWrite
sequential_write = refuses _ _ _ _ _ _ refl refl

pub outside_read : OutsideRead
outside_read = refuses _ _ _ _ _ _ refl refl
