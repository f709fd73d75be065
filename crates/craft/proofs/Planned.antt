-- What the words ask for.
use Rattle.std.proofs.Common.{◌≡◌, ℕ, List, [], length, Option, None, Some, false, refl, ap, ◌∙◌}
use Rattle.command_words.specs.declared.command.Command.{Command}
use Rattle.command_words.specs.declared.command.Command.TheVariants.{Replay, Node, Ask, Split, Join, Storm}
use Rattle.command_words.specs.declared.command.NodeCommand.{NodeCommand}
use Rattle.command_words.specs.Spelling.{AreWords}
use Rattle.command_words.specs.Words.{path_in, plan}
use Rattle.command_words.proofs.Commands.{path_found, words_are_command}
use Rattle.craft.specs.Program.{is_node, path_for, paths}

pub same_some : {one other : Command} → Some one ≡ Some other → one ≡ other
same_some same = cc

-- only `node` has a journal
pub no_path : (command : Option Command) (path : Option (List ℕ)) → is_node command ≡ false → path_for command path ≡ []
no_path None path none = refl
no_path (Some (Replay shape)) path none = refl
no_path (Some (Node node)) path none = absurd cc
no_path (Some (Ask ask)) path none = refl
no_path (Some (Split shape)) path none = refl
no_path (Some (Join shape)) path none = refl
no_path (Some (Storm storm)) path none = refl

-- and `node` has one
pub one_disk : (words : List (List ℕ)) (disks : ℕ) (node : NodeCommand) → AreWords words → plan words ≡ Some (Node node) → disks ≡ length (paths words) → disks ≡ 1
one_disk words disks node are planned many =
    let spelled = (words_are_command words (Node node) are).0 planned in
    let found : path_in words ≡ Some spelled.0 = path_found words spelled.0 node spelled.1 in
    many ∙ ap (λ command. length (path_for command (path_in words))) planned ∙ ap (λ path. length (path_for (Some (Node node)) path)) found
