use Rattle.rules.proofs.laws.examples_end_so.Goals as goal
use Rattle.rules.proofs.Examples as run

pub returns : goal.returns
returns c = record {
  load_buffering = run.load_buffering;
  thin_air = run.thin_air;
  own_promise = run.own_promise;
  updates_clash = run.updates_clash;
  updates_follow = run.updates_follow;
  message_passing = run.message_passing;
  relaxed = run.relaxed;
  fenced = run.fenced;
  store_buffering = run.store_buffering;
  at_the_line = run.at_the_line;
  above_the_line = run.above_the_line;
  release_fence = run.release_fence;
  both_fences = run.both_fences;
  promise_acquired = run.promise_acquired;
  update_between = run.update_between;
  relaxed_write = run.relaxed_write;
  promise_unfenced = run.promise_unfenced;
  exchange_fails = run.exchange_fails;
  acquire_update = run.acquire_update;
  release_update = run.release_update;
  fence_between = run.fence_between;
  sequential_write = run.sequential_write;
  outside_read = run.outside_read;
}
