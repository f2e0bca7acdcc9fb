-- Documents of TOML.
use Rattle.std.specs.Prelude.{ℕ, List}
use Rattle.std.specs.Str.{IsUtf8}
use Rattle.std.specs.declared.alloc.Global.{Global}
use Rattle.exported.specs.Toml.{ShowsDocument, ShowsTree, WantsDocument, WantsTree}
use Rattle.exported.specs.declared.toml.TomlResult.{TomlResult}
use Rattle.format_toml_document.specs.Fault.{IsDocument}
use Rattle.format_toml_nodes.specs.declared.node.TomlNode.{TomlNode}
use Rattle.format_toml_tree.specs.declared.tree.Tree.{Tree}

pub shows_document : (level : ℕ) (bytes text : List ℕ) (tree : Tree Global)
    (nodes : List TomlNode) → IsUtf8 bytes × IsDocument Global level bytes tree
    → ShowsTree tree text nodes → ShowsDocument level bytes text nodes
shows_document level bytes text tree nodes (is_text, (lines, are, document)) shows =
    let (given, gives, holds, nested) = document in
    record {
      is_text = is_text;
      lines = lines;
      are_lines = are;
      given = given;
      gives = gives;
      nested = nested;
      nodes_are = shows given holds;
    }

pub wants_document : (level : ℕ) (bytes : List ℕ) (tree : Tree Global) (found : TomlResult)
    → IsUtf8 bytes × IsDocument Global level bytes tree → WantsTree tree found
    → WantsDocument level bytes found
wants_document level bytes tree found (is_text, is) wants = (is_text, (tree, is, wants))
