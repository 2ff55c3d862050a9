pub mod Proper
