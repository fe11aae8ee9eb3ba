-- The report.
use Rattle.std.specs.Prelude.{ℕ, zero, suc, ◌+◌, List, [], ◌∷◌, ◌++◌, Some, None, Ok, Err, Option, Result}
use Rattle.lines.specs.Spelling.{spelled}
use Rattle.stores.specs.declared.message.Message.{Message}
use Rattle.stores.specs.declared.view.View.{View}
use Rattle.stores.specs.Views.{at}
use Rattle.rules.specs.Models.{Run}
use Rattle.rules.specs.Threads.{owing_thread}
pub use Rattle.rules.specs.Threads.{owner}
pub use Rattle.jobs.specs.Texts.{least_report}
use Rattle.jobs.specs.declared.fault.Refusal.{Refusal}
use Rattle.jobs.specs.Reports.{said}
use Rattle.jobs.specs.Texts.{texts, answer, left}
use Rattle.judge.specs.declared.fault.Fault.{Fault}
use Rattle.judge.specs.Faults.{fault_number, fault_layer}
use Rattle.judge.specs.Traces.{Progress}
use Rattle.judge.specs.Verdicts.{judged}

-- m x f t v w, with who owes the message
abbrev pub message_line : Message → Option ℕ → List ℕ
message_line m who = spelled 109 (m.location ∷ m.span.from ∷ m.span.to ∷ m.value ∷ owner who ∷ [])

abbrev pub messages_text : Run → List ℕ
messages_text r = texts (λ k m. message_line m (owing_thread k r.threads)) 0 r.memory

-- the ends of a view at the first l locations
abbrev pub first_ends : ℕ → View → List ℕ
first_ends zero v = []
first_ends (suc l) v = first_ends l v ++ (at v l ∷ [])

-- c i e… for thread i, with its cur
abbrev pub view_line : ℕ → ℕ → View → List ℕ
view_line l i cur = spelled 99 (i ∷ first_ends l cur)

abbrev pub views_text : Run → List ℕ
views_text r = texts (λ i k. view_line r.locations i k.views.cur) 0 r.threads

-- p i v for each print
abbrev pub prints_text : Run → List ℕ
prints_text r = texts (λ _ p. spelled 112 (p.0 ∷ p.1 ∷ [])) 0 r.log

-- OK n, then the messages, the threads' views and the prints
abbrev pub accepted_text : Progress → List ℕ
accepted_text p =
    (79 ∷ spelled 75 (p.count ∷ [])) ++ (messages_text p.run ++ (views_text p.run ++ prints_text p.run))

-- the report where the file is accepted, its refusal where not
abbrev pub told : Result Progress (Refusal Fault) → Result (List ℕ) (Refusal Fault)
told (Ok p) = Ok (accepted_text p)
told (Err e) = Err e

abbrev pub report_text : Result Progress (Refusal Fault) → List ℕ
report_text o = said fault_number fault_layer (told o)

-- the report on a file, judged in a store of this capacity
abbrev pub report_in : ℕ → List ℕ → List ℕ
report_in capacity file = report_text (judged capacity file)

-- and in one of 64 messages
abbrev pub report_on : List ℕ → List ℕ
report_on file = report_in 64 file

-- what a call answers, by the length of its buffer: nothing where that is under the least
abbrev pub answered : ℕ → List ℕ → ℕ → ℕ
answered capacity file n = answer (report_in capacity file) n

-- and what it leaves there: the report, then zeros to the last byte
abbrev pub left_in : ℕ → List ℕ → List ℕ → List ℕ
left_in capacity file buffer = left (report_in capacity file) buffer
