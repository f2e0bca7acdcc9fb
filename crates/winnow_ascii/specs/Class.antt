-- Takes of the characters of a class: what they do is `ClassDoes`.
pub use Rattle.parser_definitions.specs.Class.{CharIsFunction, class_once}
pub mod Laws
