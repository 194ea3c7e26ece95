-- The command line as `clap` is told it: one level of subcommands, two options, and two words that stand for themselves.
use Rattle.std.specs.Prelude.{true, codes, List, [], Option, None, Some}
use Rattle.clap.specs.Words.{App, Row, Rule, Shape, Text, first_of, new_app, new_rule, with_rule, with_subcommand}
use Rattle.jl_command.specs.declared.commands.Command.{Command}
use Rattle.jl_command.specs.declared.commands.Verb.{Verb}
use Rattle.jl_command.specs.Rule.{make}

abbrev pub threads_rule : Rule
threads_rule = record (new_rule (codes "threads")) { long = Some (codes "threads") }

abbrev pub fuel_rule : Rule
fuel_rule = record (new_rule (codes "fuel")) { long = Some (codes "fuel") }

abbrev pub first_rule : Rule
first_rule = record (new_rule (codes "first")) { required = true }

abbrev pub second_rule : Rule
second_rule = record (new_rule (codes "second")) { required = true }

-- a command with no words after it, with options, and with options and one word or two
abbrev pub bare_app : Text → App
bare_app name = new_app name

abbrev pub optioned_app : Text → App
optioned_app name = with_rule (with_rule (new_app name) threads_rule) fuel_rule

abbrev pub numbered_app : Text → App
numbered_app name = with_rule (optioned_app name) first_rule

abbrev pub asked_app : Text → App
asked_app name = with_rule (numbered_app name) second_rule

-- no name of the program stands before the words, nothing is added, and a command must be there
abbrev pub top_shape : Shape
top_shape = record (new_app (codes "jl")).top { no_binary_name = true; disable_help_flag = true; disable_help_subcommand = true; subcommand_required = true }

abbrev pub top_app : App
top_app = record { top = top_shape; subs = [] }

-- the program with the commands that take no words, and then with those that take options alone
abbrev pub bare_apps : App
bare_apps = with_subcommand (with_subcommand top_app (bare_app (codes "check")).top) (bare_app (codes "replay")).top

abbrev pub optioned_apps : App
optioned_apps = with_subcommand (with_subcommand (with_subcommand bare_apps (optioned_app (codes "run")).top) (optioned_app (codes "trace")).top) (optioned_app (codes "ambiguous")).top

abbrev pub jl_app : App
jl_app = with_subcommand (with_subcommand optioned_apps (numbered_app (codes "gen")).top) (asked_app (codes "which")).top

-- the command by what `clap` found: the name of a command, and rows of values
abbrev pub made_by : Verb → Option (Text × List Row) → Option Command
made_by v None = None
made_by v (Some p) = make v (first_of (codes "threads") p.1) (first_of (codes "fuel") p.1) (first_of (codes "first") p.1) (first_of (codes "second") p.1)
