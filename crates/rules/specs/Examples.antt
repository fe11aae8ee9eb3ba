-- Small runs of register threads on two locations, whole: each line of them by the rules.
use Rattle.std.specs.Prelude.{◌≡◌, ℕ, ◌+◌, List, [], ◌∷◌, ◌++◌, map, length}
use Rattle.lines.specs.declared.layer.Layer.{Layer}
use Rattle.lines.specs.declared.layer.Layer.TheVariants as part
use Rattle.lines.specs.declared.span.Span.{Span}
use Rattle.lines.specs.declared.trace.Line.{Line}
use Rattle.lines.specs.declared.trace.Line.TheVariants.{Turn as T, Next as N, Read as R, Write as W}
use Rattle.lines.specs.declared.trace.Line.TheVariants.{Update as U, Promise as G, Keep as H, Show as X}
use Rattle.lines.specs.declared.trace.Line.TheVariants.{EndTurn as E}
use Rattle.languages.specs.declared.action.ReadMode.TheVariants.{Relaxed as RelaxedRead, Acquire}
use Rattle.languages.specs.declared.action.WriteMode.TheVariants.{Relaxed, Release}
use Rattle.languages.specs.declared.action.FenceKind.TheVariants as fence
use Rattle.languages.specs.declared.registers.RegisterLine.{RegisterLine}
use Rattle.languages.specs.declared.registers.RegisterLine.TheVariants.{Constant, Load, Store, FetchAdd}
use Rattle.languages.specs.declared.registers.RegisterLine.TheVariants.{CompareExchange, Fence, Print}
use Rattle.languages.specs.Registers.{register_start}
use Rattle.stores.specs.declared.message.Message.{Message}
use Rattle.stores.specs.Views.{at}
use Rattle.rules.specs.declared.fault.StepFault.{StepFault}
use Rattle.rules.specs.Faults.{number, layer}
use Rattle.rules.specs.Models.{Thread, Run}
use Rattle.rules.specs.Threads.{owing_thread, owner}
use Rattle.rules.specs.Rules.{went, made}
use Rattle.rules.specs.Steps.{Leads}
use Rattle.rules.specs.Histories.{Place, no_turn, turn_of, showing_of, place_of}
use Rattle.rules.specs.Reasons.{FirstReason}

-- what a run shows
pub record Shown : Type 0 where
  -- each message in order of arrival: location, span, value, and 0 or its owner plus 1
  pub messages : List (List ℕ)
  -- the cur of each thread at the two locations
  pub seen : List (List ℕ)
  -- each print with its thread
  pub prints : List (ℕ × ℕ)
  pub place : Place

-- the messages from arrival number k on
abbrev pub messages_shown : List Thread → ℕ → List Message → List (List ℕ)
messages_shown ts k [] = []
messages_shown ts k (m ∷ ms) =
    (m.location ∷ m.span.from ∷ m.span.to ∷ m.value ∷ owner (owing_thread k ts) ∷ [])
    ∷ messages_shown ts (k + 1) ms

abbrev pub seen_by : Thread → List ℕ
seen_by k = at k.views.cur 0 ∷ at k.views.cur 1 ∷ []

abbrev pub shown : Run → Shown
shown r =
    record {
      messages = messages_shown r.threads 0 r.memory;
      seen = map seen_by r.threads;
      prints = r.log;
      place = place_of r.phase;
    }

-- so many lines, all accepted, lead a run of these programs to one that shows this
pub record Accepts (programs : List (List RegisterLine)) (lines : List Line) (count : ℕ) (end : Shown)
    : Type 0 where
  pub first : Run
  pub last : Run
  pub start : made (map register_start programs) (length programs) 2 64 ≡ went first
  pub led : Leads first lines last
  pub many : length lines ≡ count
  pub shows : shown last ≡ end

-- so many lines of the trace are accepted, and the next one is refused, for its first reason
pub record RefusesAfter (programs : List (List RegisterLine)) (trace : List Line) (count : ℕ) (end : Shown)
    (n : ℕ) (l : Layer) : Type 0 where
  pub before : List Line
  pub line : Line
  pub later : List Line
  pub parts : trace ≡ before ++ (line ∷ later)
  pub run : Accepts programs before count end
  pub fault : StepFault
  pub reason : FirstReason run.last line fault
  pub number_is : number fault ≡ n
  pub layer_is : layer fault ≡ l

-- the span (f, t]
abbrev pub span : ℕ → ℕ → Span
span f t = record { from = f; to = t }

-- a message without an owner, and one that thread i owes
abbrev pub unowned : ℕ → ℕ → ℕ → ℕ → List ℕ
unowned x f t v = x ∷ f ∷ t ∷ v ∷ 0 ∷ []

abbrev pub owed_by : ℕ → ℕ → ℕ → ℕ → ℕ → List ℕ
owed_by i x f t v = x ∷ f ∷ t ∷ v ∷ (i + 1) ∷ []

-- the initial messages, and then these
abbrev pub after_initial : List (List ℕ) → List (List ℕ)
after_initial more = unowned 0 0 0 0 ∷ unowned 1 0 0 0 ∷ more

-- two threads with these programs
abbrev pub two : List RegisterLine → List RegisterLine → List (List RegisterLine)
two p q = p ∷ q ∷ []

-- what threads 0 and 1 have seen
abbrev pub both_seen : ℕ → ℕ → ℕ → ℕ → List (List ℕ)
both_seen a b c d = (a ∷ b ∷ []) ∷ (c ∷ d ∷ []) ∷ []

-- load buffering: a promised write is read before it is made
abbrev pub buffered_trace : List Line
buffered_trace =
    T 0 ∷ G 1 1 (span 0 1) ∷ X ∷ R 0 ∷ N ∷ H 1 ∷ E
    ∷ T 1 ∷ R 1 ∷ W (span 0 1) ∷ E
    ∷ T 0 ∷ R 1 ∷ N ∷ H 1 ∷ E ∷ []

-- thread 0 reads x into register 0, sets register 1 to 1, and stores register r in location 1
abbrev pub promiser : ℕ → ℕ → List RegisterLine
promiser x r = Load 0 x RelaxedRead ∷ Constant 1 1 ∷ Store 1 r Relaxed ∷ []

abbrev pub copier : List RegisterLine
copier = Load 0 1 RelaxedRead ∷ Store 0 0 Relaxed ∷ []

abbrev pub buffered_end : Shown
buffered_end = record {
  messages = after_initial (unowned 1 0 1 1 ∷ unowned 0 0 1 1 ∷ []);
  seen = both_seen 1 1 1 1;
  prints = [];
  place = no_turn;
}

abbrev pub LoadBuffering : Type 0
LoadBuffering = Accepts (two (promiser 0 1) copier) buffered_trace 16 buffered_end

-- the same, but the value written depends on the value read: it cannot be shown
abbrev pub OutOfThinAir : Type 0
OutOfThinAir = RefusesAfter (two (promiser 0 0) copier) buffered_trace 5 (record {
  messages = after_initial (owed_by 0 1 0 1 1 ∷ []);
  seen = both_seen 0 0 0 0;
  prints = [];
  place = showing_of 0;
}) 12 part.Step

-- the same, but the thread reads its own promise
abbrev pub own_promise_read : Shown
own_promise_read = record {
  messages = after_initial (owed_by 0 1 0 1 1 ∷ unowned 0 0 1 1 ∷ []);
  seen = both_seen 0 1 1 1;
  prints = [];
  place = turn_of 0;
}

abbrev pub OwnPromiseRead : Type 0
OwnPromiseRead = RefusesAfter (two (promiser 1 1) copier) buffered_trace 14 own_promise_read 11 part.Step

-- two updates of one message, and of one message and the next
abbrev pub adder : List RegisterLine
adder = FetchAdd 0 0 1 RelaxedRead Relaxed ∷ []

abbrev pub UpdatesClash : Type 0
UpdatesClash = RefusesAfter (two adder adder) (T 0 ∷ U (span 0 1) ∷ E ∷ T 1 ∷ U (span 0 2) ∷ []) 4 (record {
  messages = after_initial (unowned 0 0 1 0 ∷ []);
  seen = both_seen 1 0 0 0;
  prints = [];
  place = turn_of 1;
}) 13 part.Step

abbrev pub UpdatesFollow : Type 0
UpdatesFollow = Accepts (two adder adder) (T 0 ∷ U (span 0 1) ∷ E ∷ T 1 ∷ U (span 1 2) ∷ []) 5 (record {
  messages = after_initial (unowned 0 0 1 0 ∷ unowned 0 1 2 0 ∷ []);
  seen = both_seen 1 0 2 0;
  prints = [];
  place = turn_of 1;
})

-- message passing: thread 0 stores in location 0 and then, by a release write, in location 1
abbrev pub sender : List RegisterLine
sender = Store 0 0 Relaxed ∷ Store 1 0 Release ∷ []

-- the turn of the sender, then these lines of thread 1
abbrev pub after_sending : List Line → List Line
after_sending lines = T 0 ∷ W (span 0 1) ∷ W (span 0 1) ∷ E ∷ T 1 ∷ lines

abbrev pub both_sent : List (List ℕ)
both_sent = after_initial (unowned 0 0 1 0 ∷ unowned 1 0 1 0 ∷ [])

-- thread 1 reads location 1 by an acquire read, and then location 0
abbrev pub acquirer : List RegisterLine
acquirer = Load 0 1 Acquire ∷ Load 1 0 RelaxedRead ∷ []

-- after which the old value of location 0 cannot be read
abbrev pub MessagePassing : Type 0
MessagePassing =
    RefusesAfter (two sender acquirer) (after_sending (R 1 ∷ R 0 ∷ [])) 6 (record {
      messages = both_sent;
      seen = both_seen 1 1 1 1;
      prints = [];
      place = turn_of 1;
    }) 11 part.Step

-- a relaxed read, after which it can
abbrev pub MessagePassingRelaxed : Type 0
MessagePassingRelaxed =
    Accepts (two sender (Load 0 1 RelaxedRead ∷ Load 1 0 RelaxedRead ∷ []))
    (after_sending (R 1 ∷ R 0 ∷ [])) 7 (record {
      messages = both_sent;
      seen = both_seen 1 1 0 1;
      prints = [];
      place = turn_of 1;
    })

-- a relaxed read with an acquire fence after it
abbrev pub fenced_reader : List RegisterLine
fenced_reader = Load 0 1 RelaxedRead ∷ Fence fence.Acquire ∷ Load 1 0 RelaxedRead ∷ []

abbrev pub MessagePassingFenced : Type 0
MessagePassingFenced =
    RefusesAfter (two sender fenced_reader) (after_sending (R 1 ∷ N ∷ R 0 ∷ [])) 7 (record {
      messages = both_sent;
      seen = both_seen 1 1 1 1;
      prints = [];
      place = turn_of 1;
    }) 11 part.Step

-- store buffering with sequential fences: not both read the old value
abbrev pub buffer : ℕ → ℕ → List RegisterLine
buffer x y = Constant 1 1 ∷ Store x 1 Relaxed ∷ Fence fence.Sequential ∷ Load 0 y RelaxedRead ∷ []

abbrev pub fenced_trace : List Line
fenced_trace = T 0 ∷ N ∷ W (span 0 1) ∷ N ∷ R 0 ∷ E ∷ T 1 ∷ N ∷ W (span 0 1) ∷ N ∷ R 0 ∷ []

abbrev pub fenced_end : Shown
fenced_end = record {
  messages = after_initial (unowned 0 0 1 1 ∷ unowned 1 0 1 1 ∷ []);
  seen = both_seen 1 0 1 1;
  prints = [];
  place = turn_of 1;
}

abbrev pub StoreBufferingFenced : Type 0
StoreBufferingFenced = RefusesAfter (two (buffer 0 1) (buffer 1 0)) fenced_trace 10 fenced_end 11 part.Step

-- a showing writes above the closing line only
abbrev pub writer : List RegisterLine
writer = Store 0 0 Relaxed ∷ Store 0 0 Relaxed ∷ Constant 1 1 ∷ Store 1 1 Relaxed ∷ []

abbrev pub AtTheClosingLine : Type 0
AtTheClosingLine =
    RefusesAfter (two writer []) (T 0 ∷ W (span 0 1) ∷ G 1 1 (span 0 1) ∷ X ∷ W (span 1 2) ∷ []) 4 (record {
      messages = after_initial (unowned 0 0 1 0 ∷ owed_by 0 1 0 1 1 ∷ []);
      seen = both_seen 1 0 0 0;
      prints = [];
      place = showing_of 0;
    }) 14 part.Step

-- and its end puts back what it wrote
abbrev pub AboveTheClosingLine : Type 0
AboveTheClosingLine =
    Accepts (two writer [])
    (T 0 ∷ W (span 0 1) ∷ G 1 1 (span 0 1) ∷ X ∷ W (span 2 3) ∷ N ∷ H 1 ∷ E ∷ []) 8 (record {
      messages = after_initial (unowned 0 0 1 0 ∷ owed_by 0 1 0 1 1 ∷ []);
      seen = both_seen 1 0 0 0;
      prints = [];
      place = no_turn;
    })

-- a release fence between two relaxed writes, and an acquire read
abbrev pub fenced_sender : List RegisterLine
fenced_sender = Store 0 0 Relaxed ∷ Fence fence.Release ∷ Store 1 0 Relaxed ∷ []

abbrev pub ReleaseFence : Type 0
ReleaseFence =
    RefusesAfter (two fenced_sender acquirer)
    (T 0 ∷ W (span 0 1) ∷ N ∷ W (span 0 1) ∷ E ∷ T 1 ∷ R 1 ∷ R 0 ∷ []) 7 (record {
      messages = both_sent;
      seen = both_seen 1 1 1 1;
      prints = [];
      place = turn_of 1;
    }) 11 part.Step

-- a fence of both kinds on either side, with relaxed accesses; thread 0 prints
abbrev pub BothFences : Type 0
BothFences =
    RefusesAfter (two (Store 0 0 Relaxed ∷ Fence fence.Both ∷ Store 1 0 Relaxed ∷ Print 0 ∷ [])
    (Load 0 1 RelaxedRead ∷ Fence fence.Both ∷ Load 1 0 RelaxedRead ∷ []))
    (T 0 ∷ W (span 0 1) ∷ N ∷ W (span 0 1) ∷ N ∷ E ∷ T 1 ∷ R 1 ∷ N ∷ R 0 ∷ []) 9 (record {
      messages = both_sent;
      seen = both_seen 1 1 1 1;
      prints = (0, 0) ∷ [];
      place = turn_of 1;
    }) 11 part.Step

-- a promise made after a release fence has the view of that fence, which an acquire read of it takes in
abbrev pub PromiseAcquired : Type 0
PromiseAcquired =
    RefusesAfter (two fenced_sender acquirer)
    (T 0 ∷ W (span 0 1) ∷ N ∷ G 1 0 (span 0 1) ∷ X ∷ H 1 ∷ E ∷ T 1 ∷ R 1 ∷ R 0 ∷ []) 9 (record {
      messages = after_initial (unowned 0 0 1 0 ∷ owed_by 0 1 0 1 0 ∷ []);
      seen = both_seen 1 0 1 1;
      prints = [];
      place = turn_of 1;
    }) 11 part.Step

-- a relaxed update of what a release wrote hands its view on to an acquire read
abbrev pub UpdateBetween : Type 0
UpdateBetween =
    RefusesAfter (two sender (FetchAdd 0 1 1 RelaxedRead Relaxed ∷ acquirer))
    (after_sending (U (span 1 2) ∷ R 2 ∷ R 0 ∷ [])) 7 (record {
      messages = after_initial (unowned 0 0 1 0 ∷ unowned 1 0 1 0 ∷ unowned 1 1 2 0 ∷ []);
      seen = both_seen 1 1 1 2;
      prints = [];
      place = turn_of 1;
    }) 11 part.Step

-- a relaxed write hands on nothing else, also to an acquire read
abbrev pub RelaxedWrite : Type 0
RelaxedWrite =
    Accepts (two (Store 0 0 Relaxed ∷ Store 1 0 Relaxed ∷ []) acquirer)
    (after_sending (R 1 ∷ R 0 ∷ [])) 7 (record {
      messages = both_sent;
      seen = both_seen 1 1 0 1;
      prints = [];
      place = turn_of 1;
    })

-- and neither does a promise that no release fence precedes
abbrev pub PromiseUnfenced : Type 0
PromiseUnfenced =
    Accepts (two (Store 0 0 Relaxed ∷ Store 1 0 Relaxed ∷ []) acquirer)
    (T 0 ∷ W (span 0 1) ∷ G 1 0 (span 0 1) ∷ X ∷ H 1 ∷ E ∷ T 1 ∷ R 1 ∷ R 0 ∷ []) 9 (record {
      messages = after_initial (unowned 0 0 1 0 ∷ owed_by 0 1 0 1 0 ∷ []);
      seen = both_seen 1 0 0 1;
      prints = [];
      place = turn_of 1;
    })

-- an update that only reads takes in the view of what it reads, as a load with its mode
abbrev pub ExchangeFails : Type 0
ExchangeFails =
    RefusesAfter
    (two sender (Constant 1 1 ∷ CompareExchange 0 1 1 1 Acquire Relaxed ∷ Load 1 0 RelaxedRead ∷ []))
    (after_sending (N ∷ R 1 ∷ R 0 ∷ [])) 7 (record {
      messages = both_sent;
      seen = both_seen 1 1 1 1;
      prints = [];
      place = turn_of 1;
    }) 11 part.Step

-- and so does an acquire update
abbrev pub AcquireUpdate : Type 0
AcquireUpdate =
    RefusesAfter (two sender (FetchAdd 0 1 1 Acquire Relaxed ∷ Load 1 0 RelaxedRead ∷ []))
    (after_sending (U (span 1 2) ∷ R 0 ∷ [])) 6 (record {
      messages = after_initial (unowned 0 0 1 0 ∷ unowned 1 0 1 0 ∷ unowned 1 1 2 0 ∷ []);
      seen = both_seen 1 1 1 2;
      prints = [];
      place = turn_of 1;
    }) 11 part.Step

-- a release update hands on what its thread has seen
abbrev pub ReleaseUpdate : Type 0
ReleaseUpdate =
    RefusesAfter (two (Store 0 0 Relaxed ∷ FetchAdd 0 1 1 RelaxedRead Release ∷ []) acquirer)
    (T 0 ∷ W (span 0 1) ∷ U (span 0 1) ∷ E ∷ T 1 ∷ R 1 ∷ R 0 ∷ []) 6 (record {
      messages = both_sent;
      seen = both_seen 1 1 1 1;
      prints = [];
      place = turn_of 1;
    }) 11 part.Step

-- what a relaxed read saw is handed on behind a fence of both kinds, to a third thread
abbrev pub FenceBetween : Type 0
FenceBetween =
    RefusesAfter (sender ∷ (Load 0 1 RelaxedRead ∷ Fence fence.Both ∷ Store 1 0 Relaxed ∷ []) ∷ acquirer ∷ [])
    (after_sending (R 1 ∷ N ∷ W (span 1 2) ∷ E ∷ T 2 ∷ R 2 ∷ R 0 ∷ [])) 11 (record {
      messages = after_initial (unowned 0 0 1 0 ∷ unowned 1 0 1 0 ∷ unowned 1 1 2 0 ∷ []);
      seen = (1 ∷ 1 ∷ []) ∷ (1 ∷ 2 ∷ []) ∷ (1 ∷ 2 ∷ []) ∷ [];
      prints = [];
      place = turn_of 2;
    }) 11 part.Step

-- a write behind a sequential fence hands on what its thread has seen
abbrev pub SequentialWrite : Type 0
SequentialWrite =
    RefusesAfter (two (Store 0 0 Relaxed ∷ Fence fence.Sequential ∷ Store 1 0 Relaxed ∷ []) acquirer)
    (T 0 ∷ W (span 0 1) ∷ N ∷ W (span 0 1) ∷ E ∷ T 1 ∷ R 1 ∷ R 0 ∷ []) 7 (record {
      messages = both_sent;
      seen = both_seen 1 1 1 1;
      prints = [];
      place = turn_of 1;
    }) 11 part.Step

-- a thread whose next read is at a location that the run lacks has ended
abbrev pub OutsideRead : Type 0
OutsideRead = RefusesAfter (two (Load 0 5 RelaxedRead ∷ []) []) (T 0 ∷ R 0 ∷ []) 1 (record {
  messages = after_initial [];
  seen = both_seen 0 0 0 0;
  prints = [];
  place = turn_of 0;
}) 8 part.Step

pub record ExamplesEndSo : Type 0 where
  pub load_buffering : LoadBuffering
  pub thin_air : OutOfThinAir
  pub own_promise : OwnPromiseRead
  pub updates_clash : UpdatesClash
  pub updates_follow : UpdatesFollow
  pub message_passing : MessagePassing
  pub relaxed : MessagePassingRelaxed
  pub fenced : MessagePassingFenced
  pub store_buffering : StoreBufferingFenced
  pub at_the_line : AtTheClosingLine
  pub above_the_line : AboveTheClosingLine
  pub release_fence : ReleaseFence
  pub both_fences : BothFences
  pub promise_acquired : PromiseAcquired
  pub update_between : UpdateBetween
  pub relaxed_write : RelaxedWrite
  pub promise_unfenced : PromiseUnfenced
  pub exchange_fails : ExchangeFails
  pub acquire_update : AcquireUpdate
  pub release_update : ReleaseUpdate
  pub fence_between : FenceBetween
  pub sequential_write : SequentialWrite
  pub outside_read : OutsideRead
