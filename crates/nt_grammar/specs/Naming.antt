-- Names that a creation may bind.
use Rattle.std.specs.Prelude.{◌≡◌, ℕ, Option, Some, None, Result, Ok}
use Rattle.nt_status.specs.declared.refusal.Refusal.{Refusal}
use Rattle.nt_calls.specs.declared.call.Reply.{Reply}
use Rattle.nt_grammar.specs.declared.parser.Statement.{Statement}
use Rattle.nt_grammar.specs.declared.parser.Statement.TheVariants.{Blank, Create, Perform, Tick}
use Rattle.nt_grammar.specs.Scope.{Scope, bound_in}

-- a creation's name is free
abbrev pub NamesFree : Scope → Statement → Type 0
NamesFree scope Blank = Unit {0}
NamesFree scope (Perform who call) = Unit {0}
NamesFree scope (Tick moment) = Unit {0}
NamesFree scope (Create who name act) = bound_in scope.names name ≡ None

-- the handle that a creation answered
abbrev pub handle_of : Result Reply Refusal → Option ℕ
handle_of (Ok (Reply.Handle handle)) = Some handle
handle_of _ = None
