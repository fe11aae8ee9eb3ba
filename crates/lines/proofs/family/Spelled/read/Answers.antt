use Rattle.std.proofs.Common.{◌≡◌, Some, None, Ok, Err, sym, ap, ◌∙◌}
use Rattle.std.proofs.lemmas.Result.{err_from_is_err_and}
use Rattle.lines.specs.Fields.{and_then, letter}
use Rattle.lines.specs.Families.{lookup, by_kind, reads, seen}
use Rattle.lines.specs.Reading.{read, unread}
use Rattle.lines.specs.declared.reader.LineFault.TheVariants.{Form, Range}
use Rattle.lines.proofs.Familiar.{one_spelling, chosen_by, refuses, makes_line}
use Rattle.lines.proofs.Unread.{refuses_line}
use Rattle.lines.proofs.family.Spelled.read.Goals as goal

pub returns-in_err-numbers : goal.returns-in_err-numbers
returns-in_err-numbers g c =
    let F = g.Self.Spelled.family c.args.scope in
    let codec = g.met.Self.Spelled.codec c.args.scope in
    let bs = c.args.reader.now.rest.now in
    let k = c.in-Some-kind_of.kind in
    let f = c.in_err-numbers.field-0.0 in
    let chosen = chosen_by F codec bs c.in-Some.letter k c.in-Some.ensures (c.in-Some-kind_of.ensures c.args.scope) in
    let is = refuses F codec bs k c.limits.result chosen c.limits.ensures f c.in_err-numbers.ensures.numbers in
    let p = err_from_is_err_and c.from_residual.result c.from_residual.ensures.1 in
    let value : seen g.Self.Spelled.shown c.from_residual.result ≡ read (reads F bs) = ap (seen g.Self.Spelled.shown) (p.1 ∙ ap Err p.2) ∙ sym (ap read is) in
    let left : bs ≡ unread (reads F bs) bs = sym (ap (λ o. unread o bs) is) in
    record { value = value; left = left; spelling = one_spelling F codec bs (seen g.Self.Spelled.shown c.from_residual.result) bs value left; refusals = refuses_line F codec bs (seen g.Self.Spelled.shown c.from_residual.result) value }

pub returns-in_default-make : goal.returns-in_default-make
returns-in_default-make g c =
    let F = g.Self.Spelled.family c.args.scope in
    let codec = g.met.Self.Spelled.codec c.args.scope in
    let bs = c.args.reader.now.rest.now in
    let k = c.in-Some-kind_of.kind in
    let chosen = chosen_by F codec bs c.in-Some.letter k c.in-Some.ensures (c.in-Some-kind_of.ensures c.args.scope) in
    let is = makes_line F codec bs k c.limits.result chosen c.limits.ensures c.in_ok-numbers.numbers c.as_slice.result.now c.line.new.self.rest.now None c.in_ok-numbers.ensures.numbers c.in_ok-numbers.ensures.left c.in_ok-numbers.ensures.within c.as_slice.ensures.value (c.in_default-make.ensures c.args.scope) in
    let value : Err Range ≡ read (reads F bs) = sym (ap read is) in
    let left : bs ≡ unread (reads F bs) bs = sym (ap (λ o. unread o bs) is) in
    record { value = value; left = left; spelling = one_spelling F codec bs (Err Range) bs value left; refusals = refuses_line F codec bs (Err Range) value }

pub returns : goal.returns
returns g c =
    let F = g.Self.Spelled.family c.args.scope in
    let codec = g.met.Self.Spelled.codec c.args.scope in
    let bs = c.args.reader.now.rest.now in
    let k = c.in-Some-kind_of.kind in
    let after = c.line.new.self.rest.now in
    let line = g.Self.Spelled.shown c.in-Some-make.line in
    let chosen = chosen_by F codec bs c.in-Some.letter k c.in-Some.ensures (c.in-Some-kind_of.ensures c.args.scope) in
    let is = makes_line F codec bs k c.limits.result chosen c.limits.ensures c.in_ok-numbers.numbers c.as_slice.result.now after (Some line) c.in_ok-numbers.ensures.numbers c.in_ok-numbers.ensures.left c.in_ok-numbers.ensures.within c.as_slice.ensures.value (c.in-Some-make.ensures c.args.scope) in
    let value : Ok line ≡ read (reads F bs) = sym (ap read is) in
    let left : after ≡ unread (reads F bs) bs = sym (ap (λ o. unread o bs) is) in
    record { value = value; left = left; spelling = one_spelling F codec bs (Ok line) after value left; refusals = refuses_line F codec bs (Ok line) value }

pub returns-in_default-clause-refusals : goal.returns-in_default-clause-refusals
returns-in_default-clause-refusals g c =
    let F = g.Self.Spelled.family c.args.scope in
    let codec = g.met.Self.Spelled.codec c.args.scope in
    let bs = c.args.reader.now.rest.now in
    let none : None ≡ letter bs = c.in_default.ensures in
    refuses_line F codec bs (Err Form) (ap (λ o. read (by_kind F bs (and_then o (lookup F.letters)))) none)

pub returns-in_default-kind_of-clause-refusals : goal.returns-in_default-kind_of-clause-refusals
returns-in_default-kind_of-clause-refusals g c =
    let F = g.Self.Spelled.family c.args.scope in
    let codec = g.met.Self.Spelled.codec c.args.scope in
    let bs = c.args.reader.now.rest.now in
    let first : Some c.in-Some.letter ≡ letter bs = c.in-Some.ensures in
    let none : None ≡ lookup F.letters c.in-Some.letter = c.in_default-kind_of.ensures c.args.scope in
    let value : Err Form ≡ read (by_kind F bs (lookup F.letters c.in-Some.letter)) = ap (λ o. read (by_kind F bs o)) none in
    refuses_line F codec bs (Err Form) (value ∙ ap (λ o. read (by_kind F bs (and_then o (lookup F.letters)))) first)
