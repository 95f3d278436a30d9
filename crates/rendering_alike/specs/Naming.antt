-- What a style names of entries, as it is gathered from the style.
use Rattle.std.specs.Prelude.{◌↔◌, ◌++◌, List, [], ◌∷◌, fold, Contains, if◌then◌else◌}
use Rattle.std.specs.List.{list_any}
use Rattle.rendering_leaves.specs.NodeSettings.{with_variable}
use Rattle.rendering_nodes.specs.Named.{Named}
pub use Rattle.rendering_nodes.specs.Named.{kind_named, people_named}
use Rattle.rendering_taxonomy.specs.contracts.kind.KindPartialEq.TheImpl as kind_eq
use Rattle.rendering_taxonomy.specs.declared.kind.Kind.{Kind}
use Rattle.rendering_taxonomy.specs.declared.variable.Variable.{Variable}
use Rattle.rendering_alike.specs.declared.names.StyleNames.{StyleNames}

-- what was gathered
abbrev pub names_view : StyleNames → Named
names_view n = record {
  variables = n.variables.items;
  kinds = n.kinds.items;
  written = n.written.items;
}

-- a kind more, unless it is there
abbrev pub with_kind : List Kind → Kind → List Kind
with_kind ks k = if list_any (λ l. kind_eq.ghosts.eq l k) ks then ks else ks ++ k ∷ []

-- the variables and kinds that are named in both, each once more at most
abbrev pub with_named : Named → Named → Named
with_named n m = record n {
  variables = fold with_variable n.variables m.variables;
  kinds = fold with_kind n.kinds m.kinds;
}

-- the same variables and the same kinds are named, whatever their order and however often, and it counts of the same how they were written
pub record NameTheSame (n m : Named) : Type 0 where
  pub variables : (v : Variable) → Contains n.variables v ↔ Contains m.variables v
  pub kinds : (k : Kind) → Contains n.kinds k ↔ Contains m.kinds k
  pub written : (v : Variable) → Contains n.written v ↔ Contains m.written v
